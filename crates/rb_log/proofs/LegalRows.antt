-- The small log is legal, and so it is with a run, a claim and its report.
use Rattle.std.proofs.Common.{refl, arith}
use Rattle.std.specs.Prelude.{[], ◌∷◌}
use Rattle.rb_causes.specs.Moments.{IsMoment}
use Rattle.rb_log.specs.Legal.{IsLegalLog}
use Rattle.rb_log.specs.declared.call.Call.TheVariants.{Claim}
use Rattle.rb_log.proofs.Computing.{computing}
use Rattle.rb_log.proofs.Samples.{ann, at, imported, reading, after, restart, reported}

moment_is : IsMoment at
moment_is = (record { le = tt }, record { le = tt })

imports_are_legal : IsLegalLog imported
unfolding computing
imports_are_legal = (
  (
    (
      (
        tt,
        (
          moment_is,
          record {
            row_is = refl;
            form = refl;
            doors = (omega arith, omega arith);
            workers = (omega arith, omega arith);
            draw = omega arith;
            later = refl;
          },
        ),
      ),
      (
        moment_is,
        record {
          asked = (moment_is, refl);
          formed = tt;
          reading = reading;
          may_read = (refl, (record { flawless = refl; read = tt }, tt));
          added = refl;
        },
      ),
    ),
    (
      moment_is,
      record { asked = moment_is; formed = tt; reading = reading; may_read = tt; added = refl },
    ),
  ),
  (
    moment_is,
    record {
      asked = (moment_is, refl);
      formed = tt;
      reading = reading;
      may_read = record { faultless = (((refl, (tt, tt)), tt), tt); jobs_are = refl };
      added = refl;
    },
  ),
)

run_is_legal : IsLegalLog (after 100 imported (restart ann ∷ Claim 0 at ∷ reported 0 ∷ []))
unfolding computing
run_is_legal = (
  (
    (
      imports_are_legal,
      (
        moment_is,
        record {
          asked = (moment_is, refl);
          formed = tt;
          reading = reading;
          may_read = tt;
          added = refl;
        },
      ),
    ),
    (
      moment_is,
      record {
        asked = (moment_is, (0, omega arith, refl));
        formed = tt;
        reading = reading;
        may_read = tt;
        added = refl;
      },
    ),
  ),
  (
    moment_is,
    record {
      asked = (moment_is, (0, omega arith, refl));
      formed = refl;
      reading = reading;
      may_read = tt;
      added = refl;
    },
  ),
)
