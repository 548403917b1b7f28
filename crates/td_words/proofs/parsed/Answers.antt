use Rattle.std.proofs.Common.{◌≡◌, inl, inr, true, false, [], map, string_bytes, ap, subst, sym, ◌∙◌}
use Rattle.std.specs.List.{list_any}
use Rattle.clap.specs.Kinds.{HasKind, Kinds}
use Rattle.clap.specs.Simple.{App, app_of, is_simple, subcommand_of}
use Rattle.clap.specs.Faults.{fault_of, is_simple_and_free}
use Rattle.clap.proofs.WalkLemmas.{list_any-map}
use Rattle.td_words.specs.Words.{is_dashed}
use Rattle.td_words.specs.Program.{dir_in, program_app}
use Rattle.td_words.proofs.Parsing.{read_is, none_or_fine, is_simple_program, is_free_program, dashed_is_none}
use Rattle.td_words.proofs.parsed.Goals as goal

pub returns-then-has_dashed : goal.returns-then-has_dashed
returns-then-has_dashed c =
    let words = c.args.words.now in
    sym (dashed_is_none (map string_bytes words) (sym (list_any-map is_dashed string_bytes words) ∙ sym c.if-has_dashed.ensures))

pub returns-in-Ok : goal.returns-in-Ok
returns-in-Ok c =
    let words = map string_bytes c.args.words.now in
    let bare : list_any is_dashed words ≡ false = sym (list_any-map is_dashed string_bytes c.args.words.now) ∙ sym c.if-has_dashed.ensures in
    let app_is : app_of c.in_ok-program.program ≡ program_app = c.in_ok-program.ensures in
    let fine : fault_of program_app words ≡ [] = ap (λ (a : App). fault_of a words) (sym app_is) ∙ c.in-Ok.ensures.kinds (ap is_simple_and_free app_is ∙ is_free_program) in
    let found = (c.in-Ok.ensures.matches (ap is_simple app_is ∙ is_simple_program)).1 in
    c.command_in.ensures ∙ ap dir_in (found ∙ ap (λ (a : App). subcommand_of a words) app_is) ∙ read_is words bare fine

pub returns : goal.returns
returns c =
    let words = map string_bytes c.args.words.now in
    let bare : list_any is_dashed words ≡ false = sym (list_any-map is_dashed string_bytes c.args.words.now) ∙ sym c.if-has_dashed.ensures in
    let app_is : app_of c.in_ok-program.program ≡ program_app = c.in_ok-program.ensures in
    let kinds : HasKind (fault_of program_app words) c.in-Err.error = subst (λ (a : App). HasKind (fault_of a words) c.in-Err.error) app_is (c.in-Err.ensures.kinds (ap is_simple_and_free app_is ∙ is_free_program)) in
    elim (none_or_fine words bare) [
      | inl e ↦ sym e
      | inr fine ↦ elim (subst (λ (ks : Kinds). HasKind ks c.in-Err.error) fine kinds) [
        | inl memory ↦ let bad : false ≡ true = sym c.if-is_want_of_memory.false ∙ c.is_want_of_memory.ensures.1 memory in absurd cc
        | inr other ↦ absurd other
      ]
    ]
