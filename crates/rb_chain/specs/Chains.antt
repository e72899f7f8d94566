-- The runs of a chain document, or its first flaw; and what each of them asks for.
use Rattle.std.specs.Prelude.{
  ◌≡◌,
  ℕ,
  Bool,
  true,
  false,
  List,
  [],
  map,
  slice_get,
  option_map,
  option_and_then,
  unwrap_or,
  codes,
  Option,
  Some,
  None,
  Result,
  Ok,
  Err,
}
use Rattle.rb_causes.specs.Causes.{unless}
use Rattle.rb_causes.specs.declared.items.Prop.{Prop}
use Rattle.rb_option.specs.declared.option_err.ArgsErr.{ArgsErr}
use Rattle.rb_plan.specs.declared.world.RunAsk.{RunAsk}
use Rattle.rb_yaml.specs.Tree.{YamlTree}
use Rattle.rb_values.specs.Values.{Entry, map_entries, text_at, value_at}
use Rattle.rb_chain.specs.Forms.{args_at, chain_flaws, run_items}
use Rattle.rb_chain.specs.declared.chain_err.ChainErr.{ChainErr}
use Rattle.rb_chain.specs.declared.chain_err.ChainErr.TheVariants.{Fault, NoMemory}
use Rattle.rb_chain.specs.declared.chain_err.ChainFault.{ChainFault}
use Rattle.rb_chain.specs.declared.chain_next.ChainNext.{ChainNext}
use Rattle.rb_chain.specs.declared.chain_next.ChainNext.TheVariants.{Ask, Over}
use Rattle.rb_chain.specs.declared.run.ChainRun.{ChainRun}
use Rattle.rb_chain.specs.declared.run.ChainUndo.{ChainUndo}

-- ---- what a document says

-- the pairs, where there are any
abbrev pub pairs_or_none : Result (List Prop) ArgsErr → List Prop
pairs_or_none (Ok pairs) = pairs
pairs_or_none (Err e) = []

abbrev pub job_at : List Entry → List ℕ
job_at entries = unwrap_or (text_at entries (codes "job")) []

abbrev pub undo_in : YamlTree → ChainUndo
undo_in value =
    let entries = map_entries value in record {
      job = job_at entries;
      given = pairs_or_none (args_at entries);
    }

abbrev pub run_in : YamlTree → ChainRun
run_in value =
    let entries = map_entries value in record {
      job = job_at entries;
      given = pairs_or_none (args_at entries);
      undo = option_map undo_in (value_at entries (codes "undo"));
    }

-- the runs of a document without a flaw
abbrev pub runs_in : List YamlTree → List ChainRun
runs_in docs = map run_in (unwrap_or (run_items docs) [])

-- the runs of these documents, or their first flaw
abbrev pub chain_of : List YamlTree → Result (List ChainRun) ChainFault
chain_of docs = unless (slice_get (chain_flaws docs) 0) (runs_in docs)

-- what the reader gives, where memory suffices
abbrev pub GivesChain : List YamlTree → Result (List ChainRun) ChainErr → Type 0
GivesChain docs (Ok runs) = chain_of docs ≡ Ok runs
GivesChain docs (Err (Fault fault)) = chain_of docs ≡ Err fault
GivesChain docs (Err NoMemory) = Unit {0}

-- ---- what is asked for

abbrev pub ask_with : List ℕ → List Prop → RunAsk
ask_with job given = record { job = job; given = given; filter = None }

abbrev pub run_ask : ChainRun → RunAsk
run_ask r = ask_with r.job r.given

abbrev pub undo_ask : ChainRun → Option RunAsk
undo_ask r = option_map (λ u. ask_with u.job u.given) r.undo

-- the run itself, or its undo, without a filter
abbrev pub ask_in : ChainRun → Bool → Option RunAsk
ask_in r false = Some (run_ask r)
ask_in r true = undo_ask r

-- what is asked for
abbrev pub ask_at : List ChainRun → ChainNext → Option RunAsk
ask_at runs (Ask run undoing) = option_and_then (λ r. ask_in r undoing) (slice_get runs run)
ask_at runs (Over good) = None
