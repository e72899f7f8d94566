-- Small drill files, computed by the definitions.
use Rattle.std.proofs.Common.{◌≡◌, ℕ, Bool, true, false, List, [], ◌∷◌, map, codes, Result, Ok, Err, refl}
use Rattle.std.specs.Str.{is_utf8, chars}
use Rattle.std.specs.Fmt.{digits}
use lib.Utf8.{encode}
use Rattle.rb_causes.specs.declared.ending.Ending.{Ending}
use Rattle.rb_causes.specs.declared.ending.Ending.TheVariants.{Code, NotStarted}
use Rattle.rb_top.specs.Drill.{drill}
use Rattle.rb_top.specs.Reading.{script_of}
use Rattle.rb_top.specs.declared.script.Script.{Script}
use Rattle.rb_top.specs.declared.script.ScriptFault.{ScriptFault}
use Rattle.rb_top.specs.declared.script.ScriptFault.TheVariants.{NotRead}

-- what is printed, the words that are started, and whether the endings sufficed; or the fault
abbrev Drilled : Type 0
Drilled = Result (List ℕ × List (List (List ℕ)) × Bool) ScriptFault

abbrev shown : Result Script ScriptFault → List Ending → Drilled
shown (Ok s) endings = Ok ((drill s endings).text, map (λ a. a.words) (drill s endings).started, (drill s endings).enough)
shown (Err fault) endings = Err fault

-- a file of these bytes, with these endings
abbrev of_file : List ℕ → List Ending → Drilled
of_file bytes endings = shown (script_of bytes) endings

abbrev one : List ℕ
one = codes "node web1\nallow ann web1\njob hello web1\nstep echo hi\nrun ann hello\n"

abbrev echo : List (List ℕ)
echo = codes "echo" ∷ codes "hi" ∷ []

allowed : of_file one (Code 0 ∷ []) ≡ Ok (codes "run 1 ann hello\nstart web1 1 echo hi\nend web1 1 code 0\nrun 1 succeeded\n", echo ∷ [], true)
unfolding is_utf8 chars encode digits
allowed = refl

fails : of_file one (Code 3 ∷ []) ≡ Ok (codes "run 1 ann hello\nstart web1 1 echo hi\nend web1 1 code 3\nrun 1 failed\n", echo ∷ [], true)
unfolding is_utf8 chars encode digits
fails = refl

not_started : of_file one (NotStarted ∷ []) ≡ Ok (codes "run 1 ann hello\nstart web1 1 echo hi\nend web1 1 not started\nrun 1 failed\n", echo ∷ [], true)
unfolding is_utf8 chars encode digits
not_started = refl

runs_out : of_file one [] ≡ Ok (codes "run 1 ann hello\nstart web1 1 echo hi\n", [], false)
unfolding is_utf8 chars encode digits
runs_out = refl

drops_denied : of_file (codes "node web1\nnode db1\nallow ann web1\nallow ann db1\ndeny ann db1\njob hello db1,web1\nstep echo hi\nrun ann hello") (Code 0 ∷ [])
    ≡ Ok (codes "run 1 ann hello\nrun 1 drops db1 rule 3\nstart web1 1 echo hi\nend web1 1 code 0\nrun 1 succeeded\n", echo ∷ [], true)
unfolding is_utf8 chars encode digits
drops_denied = refl

none_allows : of_file (codes "node web1\njob hello web1\nstep echo hi\nrun ann hello\n") [] ≡ Ok (codes "run 1 ann hello\nrun 1 refused web1 none allows\n", [], true)
unfolding is_utf8 chars encode digits
none_allows = refl

unknown_node : of_file (codes "node web1\nallow ann db1\n") [] ≡ Err (NotRead 2)
unfolding is_utf8 chars encode digits
unknown_node = refl

nothing : of_file [] [] ≡ Ok ([], [], true)
unfolding is_utf8 chars encode digits
nothing = refl

-- a comment and a tab; a step behind a run is the job's too; a failure ends the run; the second run
-- is numbered 2
two_runs : of_file (codes "# two\nnode a\nnode\tb\nallow u a\nallow u b\njob j a,b\nstep x\nrun u j\n \nstep y\t1\nrun u j\n") (Code 0 ∷ Code 0 ∷ Code 0 ∷ Code 0 ∷ Code 7 ∷ [])
    ≡ Ok (
      codes "run 1 u j\nstart a 1 x\nend a 1 code 0\nstart a 2 y 1\nend a 2 code 0\nstart b 1 x\nend b 1 code 0\nstart b 2 y 1\nend b 2 code 0\nrun 1 succeeded\nrun 2 u j\nstart a 1 x\nend a 1 code 7\nrun 2 failed\n",
      (codes "x" ∷ []) ∷ (codes "y" ∷ codes "1" ∷ []) ∷ (codes "x" ∷ []) ∷ (codes "y" ∷ codes "1" ∷ []) ∷ (codes "x" ∷ []) ∷ [],
      true,
    )
unfolding is_utf8 chars encode digits
two_runs = refl
