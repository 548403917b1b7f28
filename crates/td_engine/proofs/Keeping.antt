-- What is true of every state over its levels and its store stays true as an entry, or a halt, is taken in.
use Rattle.std.proofs.Common.{◌≡◌, ℕ, ◌+◌, ◌≤◌, List, [], ◌∷◌, Option, Some, None, refl, sym, subst, ◌∙◌, arith}
use Rattle.std.specs.Prelude.{All, IfSome, IsSome}
use Rattle.td_limits.specs.declared.limits.TheConstants.{LAST_TIMESTAMP, MEMTABLE_PARTS}
use Rattle.td_manifest.specs.declared.head.Head.{Head}
use Rattle.td_memtable.specs.Contents.{Contents}
use Rattle.td_model.specs.declared.history.What.{What}
use Rattle.td_model.specs.declared.history.Entry.{Entry}
use Rattle.td_model.specs.declared.history.Verdict.TheVariants.{Accept}
use Rattle.td_model.specs.declared.language.Stmt.{Stmt}
use Rattle.td_model.specs.State.{State, step}
use Rattle.td_model.proofs.Steps.{step_version}
use Rattle.td_outside.specs.Image.{Image, Along}
use Rattle.td_parse.specs.Statements.{IsAnswer}
use Rattle.td_printed.proofs.HeadCatalogs.{entry_fits}
use Rattle.td_printed.proofs.Kept.{entry_keeps}
use Rattle.td_printed.proofs.Texts.{answer_has_words}
use Rattle.td_told.specs.Journal.{halt_at}
use Rattle.td_told.specs.Turn.{entry_at}
use Rattle.td_told.specs.Verdict.{verdict}
use Rattle.td_verdict.specs.Valid.{IsValid}
use Rattle.td_levels.specs.Levels.{SetFiles, Levels}
use Rattle.td_levels.specs.Taken.{parts_of}
use Rattle.td_levels.specs.Laws.{MayCome, took}
use Rattle.td_levels.proofs.Entries.{entries_fit}
use Rattle.td_state.specs.Held.{bare, CanTake}
use Rattle.td_active.specs.declared.active_log.ActiveLog.{ActiveLog}
use Rattle.td_active.specs.Active.{IsActive}
use Rattle.td_active.specs.Stored.{IsSealing, Sealing, names_of, AreFinished, IsStored}
use Rattle.td_active.specs.Standing.{StandsEither}
use Rattle.td_active.specs.Carried.{carried, Leaves, Reaches}
use Rattle.td_engine.proofs.Entries.{may_come, edge_after}
use Rattle.td_engine.proofs.NoStreams.{entry_makes_none}
use Rattle.td_engine.proofs.Images.{carry}

-- ---- the head beside the frozen memtable, and the files

sealing_goes : (frozen : Option Contents) (sealed : Option Head) (place next : ActiveLog) (s t : State) (committed : ℕ) → next.number ≡ place.number → s.version ≤ t.version → s.edge ≤ t.edge → Sealing frozen sealed place s committed → Sealing frozen sealed next t committed
sealing_goes None None place next s t committed same later edge h = omega (arith, same, h)
sealing_goes (Some m) (Some head) place next s t committed same later edge h =
    let k : IsSealing m head place s committed = h in
    record {
      number = same ∙ k.number;
      fits = k.fits;
      no_sets = k.no_sets;
      no_streams = k.no_streams;
      later = k.later;
      most = omega (arith, k.most, later);
      edge = omega (arith, k.edge, edge);
      puts = k.puts;
      cuts = k.cuts;
    }
sealing_goes None (Some head) place next s t committed same later edge h = absurd h
sealing_goes (Some m) None place next s t committed same later edge h = absurd h

finished_still : (sets : List SetFiles) (x y : Image) → y.files ≡ x.files → AreFinished sets x → AreFinished sets y
finished_still sets x y same finished =
    subst (λ (files : ℕ → Option (List ℕ)). All (λ (s : SetFiles). All (λ (n : ℕ). IsSome (files n)) (names_of s)) sets) (sym same) finished

-- ---- an entry

-- what is taken in: the entry that a statement is accepted as in a state whose parts lie in levels
pub record Comes (s : State) (l : Levels) (session ordinal moment : ℕ) (text : List ℕ) (q : Stmt) (w : What) (rows : ℕ) : Type 0 where
  pub valid : IsValid s.catalog
  pub parsed : IsAnswer text q
  pub accepted : verdict q s [] moment ≡ Accept w rows
  pub takes : CanTake w s
  pub last : moment ≤ LAST_TIMESTAMP
  pub room : l.active.held + parts_of w ≤ MEMTABLE_PARTS

pub entry_comes : (s : State) (l : Levels) (session ordinal moment : ℕ) (text : List ℕ) (q : Stmt) (w : What) (rows : ℕ) → Comes s l session ordinal moment text q w rows → MayCome s l (entry_at session ordinal moment w)
entry_comes s l session ordinal moment text q w rows c = may_come s l (entry_at session ordinal moment w) c.valid c.takes c.last c.room

at_most_then : (a b : ℕ) → b ≡ a + 1 → a ≤ b
at_most_then a b is = omega arith

pub stored_taken : (told now : Option Image) (s : State) (l : Levels) (committed : ℕ) (sealed : Option Head) (place next : ActiveLog) (session ordinal moment : ℕ) (text : List ℕ) (q : Stmt) (w : What) (rows : ℕ) → Comes s l session ordinal moment text q w rows → next.number ≡ place.number
    → Along (Reaches next (carried s l committed sealed) (entry_at session ordinal moment w)) told now → IsStored told s l committed sealed place
    → IsStored now (bare (step (s ∷ []) (entry_at session ordinal moment w))) (took (entry_at session ordinal moment w) l) committed sealed next
stored_taken told now s l committed sealed place next session ordinal moment text q w rows c same reaches k =
    let e = entry_at session ordinal moment w in
    let may = entry_comes s l session ordinal moment text q w rows c in
    let version : (step (s ∷ []) e).version ≡ s.version + 1 = step_version (s ∷ []) e in
    record {
      fits = entries_fit s l e may c.valid k.fits;
      by_range = k.by_range;
      ranges = k.ranges;
      no_streams = entry_makes_none q s session ordinal moment w rows c.accepted k.no_streams;
      words = entry_keeps q s [] moment w rows (s ∷ []) (record s { version = s.version + 1; moment = moment }) (answer_has_words text q c.parsed) k.words refl c.accepted;
      heads = entry_fits text q s session ordinal moment w rows c.parsed c.accepted k.heads;
      committed_is = omega (arith, k.committed_is, version);
      sealing = sealing_goes l.frozen sealed place next s (bare (step (s ∷ []) e)) committed same (at_most_then s.version (step (s ∷ []) e).version version) (edge_after s l e may) k.sealing;
      last_version = λ going. omega (arith, c.takes.version, version);
      active = λ going. carry (Reaches next (carried s l committed sealed) e) (λ (x : Image). Unit {0}) (λ (x : Image). IsActive x next (bare (step (s ∷ []) e)) (took e l) committed sealed) told now (λ x y r p. r.carries) reaches (said told);
      files = carry (Reaches next (carried s l committed sealed) e) (AreFinished l.sets) (AreFinished l.sets) told now (λ x y r p. finished_still l.sets x y r.after.files p) reaches k.files;
    }
  where
    said : (o : Option Image) → IfSome o (λ (x : Image). Unit {0})
    said None = tt
    said (Some x) = tt

-- ---- a halt

some_none : (n : ℕ) → Some n ≡ None → ⊥
some_none n e = cc

pub stored_halted : (told now : Option Image) (s : State) (l : Levels) (committed : ℕ) (sealed : Option Head) (place next : ActiveLog) (e : Entry) (moment : ℕ) → next.number ≡ place.number → Along (StandsEither s.version e) told now → IsStored told s l committed sealed place
    → IsStored now (bare (step (s ∷ []) (halt_at moment))) l committed sealed next
stored_halted told now s l committed sealed place next e moment same either k = record {
  fits = k.fits;
  by_range = k.by_range;
  ranges = k.ranges;
  no_streams = k.no_streams;
  words = k.words;
  heads = k.heads;
  committed_is = omega (arith, k.committed_is);
  sealing = sealing_goes l.frozen sealed place next s (bare (step (s ∷ []) (halt_at moment))) committed same (at_most_then s.version (s.version + 1) refl) (omega arith) k.sealing;
  last_version = λ going. absurd (some_none (s.version + 1) going);
  active = λ going. absurd (some_none (s.version + 1) going);
  files = carry (StandsEither s.version e) (AreFinished l.sets) (AreFinished l.sets) told now (λ x y r p. finished_still l.sets x y r.files p) either k.files;
}

-- ---- no entry

pub stored_staying : (told now : Option Image) (s : State) (l : Levels) (committed : ℕ) (sealed : Option Head) (place next : ActiveLog) → next.number ≡ place.number → Along (Leaves next (carried s l committed sealed)) told now → IsStored told s l committed sealed place → IsStored now s l committed sealed next
stored_staying told now s l committed sealed place next same leaves k = record {
  fits = k.fits;
  by_range = k.by_range;
  ranges = k.ranges;
  no_streams = k.no_streams;
  words = k.words;
  heads = k.heads;
  committed_is = k.committed_is;
  sealing = sealing_goes l.frozen sealed place next s s committed same (omega arith) (omega arith) k.sealing;
  last_version = k.last_version;
  active = λ going. carry (Leaves next (carried s l committed sealed)) (λ (x : Image). IsActive x place s l committed sealed) (λ (x : Image). IsActive x next s l committed sealed) told now (λ x y r p. r.carries) leaves (k.active going);
  files = carry (Leaves next (carried s l committed sealed)) (AreFinished l.sets) (AreFinished l.sets) told now (λ x y r p. finished_still l.sets x y r.keeps.files p) leaves k.files;
}
