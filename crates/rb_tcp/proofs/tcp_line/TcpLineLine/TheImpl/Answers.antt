-- The callers are not told, so what is said of them holds of any answer.
use Rattle.std.proofs.Common.{refl}
use Rattle.rb_tcp.proofs.Always.{in_ok, on_err}
use Rattle.rb_tcp.proofs.tcp_line.TcpLineLine.TheImpl.Goals as goal

pub next_caller-tells : goal.next_caller-tells
next_caller-tells g c = record {
  waits = in_ok c.result _ (λ some. tt);
  ok = in_ok c.result _ (λ some. refl);
  err = on_err c.result _ refl;
  cause = c.ensures.cause;
}

pub read-tells : goal.read-tells
read-tells g c = record {
  count = c.ensures.count;
  next = in_ok c.result _ (λ count. tt);
  end = in_ok c.result _ (λ count. tt);
  ok = in_ok c.result _ (λ count. refl);
  err = on_err c.result _ refl;
  cause = c.ensures.cause;
}

pub write-tells : goal.write-tells
write-tells g c = record {
  count = c.ensures.count;
  ok = in_ok c.result _ (λ count. refl);
  err = on_err c.result _ refl;
  cause = c.ensures.cause;
}
