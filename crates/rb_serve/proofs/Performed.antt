-- All parts, from their casting to their end.
use Rattle.std.proofs.Common.{◌≡◌, ◌∙◌, true, List, [], length, map, All, Some, ap, sym, subst}
use Rattle.std.proofs.lemmas.List.{length-map}
use Rattle.std.specs.List.{list_any}
use Rattle.rb_board.specs.Boards.{BoardValue, PassValue}
use Rattle.rb_serve.specs.declared.crew_end.CrewEnd.{CrewEnd}
use Rattle.rb_serve.specs.declared.role.Role.{Role}
use Rattle.rb_serve.specs.Roles.{AllPlayed, AreAll, AreCast, AreGiven, EndsSo, HavePlayed, IsOf, IsWhole, NoneFell, OneRose, Senses, is_failed, lines_of, passes_of, spawners_of}
use Rattle.rb_serve.proofs.Passes.{same_all}
use Rattle.rb_serve.proofs.Roles.{all_lines, all_passes, all_spawners, all_whole, are_of, fell_length, lines_fell, one_rose, passes_same, played_length, spawners_fell}

-- parts that were given in two steps, behind which nothing is left
pub are_cast : {L S : Type 0} (passes : List PassValue) (lines : List L) (spawners : List S)
    (some all : List (Role L S)) (rest left : List PassValue) (lines' : List L)
    (spawners' : List S) → AreGiven [] some passes rest lines lines' [] []
    → AreGiven some all rest left [] [] spawners spawners' → left ≡ [] → lines' ≡ []
    → spawners' ≡ [] → AreCast passes lines spawners all
are_cast passes lines spawners some all rest left lines' spawners' first behind no_pass no_line
    no_spawner = record {
      passes_are = all_passes some all passes rest left first.passes_are behind.passes_are no_pass;
      lines_are = all_lines some all lines lines' first.lines_are behind.lines_are no_line;
      spawners_are = all_spawners some all spawners spawners' first.spawners_are
          behind.spawners_are no_spawner;
      may = behind.may;
    }

module _ {L S : Type 0} (passes : List PassValue) (lines : List L) (spawners : List S)
    (all : List (Role L S)) (cast : AreCast passes lines spawners all) where
  pub boards : (board : BoardValue) → AreAll board passes → All (IsOf board.id) all
  boards board h = are_of board.id all passes cast.passes_are h.ids

  pub count : length all ≡ length passes
  count =
      sym (length-map all (λ (r : Role L S). r.pass))
      ∙ (ap length cast.passes_are ∙ length-map passes Some)

  module _ (senses : Senses L S) (played : List (Role L S)) (h : AllPlayed senses all played)
    where
      pub whole : All IsWhole played
      whole = all_whole senses all played h

      fell : NoneFell senses.line_faults (lines_of all) (lines_of played)
      fell = lines_fell senses all played h

      kept : NoneFell (λ s. (senses.shown s).faults) (spawners_of all) (spawners_of played)
      kept = spawners_fell senses all played h

      pub line_count : length (lines_of played) ≡ length lines
      line_count =
          fell_length senses.line_faults (lines_of all) (lines_of played) fell
          ∙ ap length cast.lines_are

      pub spawner_count : length (spawners_of played) ≡ length spawners
      spawner_count =
          fell_length (λ s. (senses.shown s).faults) (spawners_of all) (spawners_of played) kept
          ∙ ap length cast.spawners_are

      pub pass_count : length (passes_of played) ≡ length passes
      pass_count =
          length-map played (λ (r : Role L S). r.pass)
          ∙ (played_length senses all played h ∙ count)

      pub all_back : (board : BoardValue) (back : List PassValue)
          → map Some back ≡ passes_of played → AreAll board passes → AreAll board back
      all_back board back is ready =
          same_all board passes back
          (passes_same senses all played passes back h cast.passes_are (sym is)) ready

      pub lines_back : (back : List L) → back ≡ lines_of played
          → NoneFell senses.line_faults lines back
      lines_back back is =
          subst (λ l. NoneFell senses.line_faults l back) cast.lines_are
          (subst (NoneFell senses.line_faults (lines_of all)) (sym is) fell)

      pub spawners_back : (back : List S) → back ≡ spawners_of played
          → NoneFell (λ s. (senses.shown s).faults) spawners back
      spawners_back back is =
          subst (λ l. NoneFell (λ s. (senses.shown s).faults) l back) cast.spawners_are
          (subst (NoneFell (λ s. (senses.shown s).faults) (spawners_of all)) (sym is) kept)

      pub rose_back : (back : List L) → back ≡ lines_of played
          → list_any (λ (r : Role L S). is_failed r.post) played ≡ true
          → OneRose senses.line_faults lines back
      rose_back back is failed =
          subst (λ l. OneRose senses.line_faults l back) cast.lines_are
          (subst (OneRose senses.line_faults (lines_of all)) (sym is)
          (one_rose senses all played h failed))

      pub have_played : (back : List PassValue) (lines' : List L) (spawners' : List S)
          (said : CrewEnd) → map Some back ≡ passes_of played → lines' ≡ lines_of played
          → spawners' ≡ spawners_of played → EndsSo played said
          → HavePlayed senses passes back lines lines' spawners spawners' said
      have_played back lines' spawners' said passes_are lines_are spawners_are told = record {
        parts = all;
        ends = played;
        cast = cast;
        played = h;
        passes_back = passes_are;
        lines_back = lines_are;
        spawners_back = spawners_are;
        told = told;
      }
