use Rattle.std.proofs.Common.{◌≡◌, ◌++◌, drop}
use Rattle.std.specs.Process.{command_args, command_program}
use Rattle.rundeskd.proofs.child_spawner.command_of.Given as goal

-- the arguments so far, with those that are left, are all
abbrev pub invariant-loop-argument : goal.invariant-loop-argument
invariant-loop-argument l = record {
  program : command_program l.command ≡ l.program;
  arguments : command_args l.command ++ drop l.argument-index l.arguments ≡ l.arguments;
}
