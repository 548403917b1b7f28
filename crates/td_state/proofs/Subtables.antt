-- The subtables of a catalog with one table more.
use Rattle.std.proofs.Common.{◌≡◌, ℕ, ◌+◌, ◌≤◌, ◌<◌, true, false, cond, List, [], ◌∷◌, ◌++◌, map, filter, length, Some, None, refl, sym, ap, ◌∙◌, arith}
use Rattle.std.specs.Prelude.{is_some}
use Rattle.std.specs.Ordering.{nat_cmp}
use Rattle.std.specs.declared.cmp.Ordering.TheVariants.{Greater}
use Rattle.std.specs.Map.{lookup}
use Rattle.std.specs.BTreeMap.{insert_entry, is_at}
use Rattle.td_layer.specs.declared.values.Cell.{Cell}
use Rattle.td_model.specs.declared.catalog.TableDef.{TableDef}
use Rattle.td_model.specs.declared.history.What.{What}
use Rattle.td_model.specs.declared.history.What.TheVariants as what
use Rattle.td_model.specs.Catalog.{Catalog, with_what}
use Rattle.td_tagidx.specs.Indexed.{IsAbsent, with_subtable}
use Rattle.td_verdict.specs.Plans.{Numbered, numbered, subtables_of}
use Rattle.td_state.specs.Contents.{Kept, kept_after}
use Rattle.std.proofs.lemmas.List.{append-nil}
use Rattle.std.proofs.lemmas.Bool.Decides.{nat_tests}

abbrev subs : List Numbered → List (ℕ × List Cell)
subs es = map (λ (e : Numbered). (e.0, e.1.tags)) (filter (λ (e : Numbered). is_some e.1.parent) es)

greater : (k n : ℕ) → n < k → nat_cmp k n ≡ Greater
greater k n l = grind (arith, nat_tests)

-- a number above those of all tables is no subtable's, and its place is the last
record IsLast (es : List (ℕ × List Cell)) (k : ℕ) : Type 0 where
  absent : lookup (is_at (nat_cmp k)) es ≡ None
  placed : (v : List Cell) → insert_entry nat_cmp es k v ≡ es ++ (k, v) ∷ []

is_last : (n : ℕ) (ts : List TableDef) (k : ℕ) → n + length ts ≤ k → IsLast (subs (numbered n ts)) k
is_last n [] k l = record { absent = refl; placed = λ v. refl }
is_last n (t ∷ ts) k l =
    let rest = is_last (n + 1) ts k (omega (arith, l)) in
    let above : nat_cmp k n ≡ Greater = greater k n (omega (arith, l)) in
    elim (is_some t.parent) as (λ b. IsLast (map (λ (e : Numbered). (e.0, e.1.tags)) (cond b ((n, t) ∷ filter (λ (e : Numbered). is_some e.1.parent) (numbered (n + 1) ts)) (filter (λ (e : Numbered). is_some e.1.parent) (numbered (n + 1) ts)))) k) [
      | true ↦ record { absent = rw above rest.absent; placed = λ v. rw above (ap (λ es. (n, t.tags) ∷ es) (rest.placed v)) }
      | false ↦ rest
    ]

-- one table more, at the end
one_more : (n : ℕ) (ts : List TableDef) (t : TableDef) → subs (numbered n (ts ++ t ∷ [])) ≡ subs (numbered n ts) ++ subs ((n + length ts, t) ∷ [])
one_more n [] t = ap (λ m. subs ((m, t) ∷ [])) (omega arith)
one_more n (x ∷ ts) t =
    let rest : subs (numbered (n + 1) (ts ++ t ∷ [])) ≡ subs (numbered (n + 1) ts) ++ subs ((n + length (x ∷ ts), t) ∷ []) = one_more (n + 1) ts t ∙ ap (λ m. subs (numbered (n + 1) ts) ++ subs ((m, t) ∷ [])) (omega arith) in
    elim (is_some x.parent) as (λ b. map (λ (e : Numbered). (e.0, e.1.tags)) (cond b ((n, x) ∷ filter (λ (e : Numbered). is_some e.1.parent) (numbered (n + 1) (ts ++ t ∷ []))) (filter (λ (e : Numbered). is_some e.1.parent) (numbered (n + 1) (ts ++ t ∷ [])))) ≡ map (λ (e : Numbered). (e.0, e.1.tags)) (cond b ((n, x) ∷ filter (λ (e : Numbered). is_some e.1.parent) (numbered (n + 1) ts)) (filter (λ (e : Numbered). is_some e.1.parent) (numbered (n + 1) ts))) ++ subs ((n + length (x ∷ ts), t) ∷ [])) [
      | true ↦ ap (λ es. (n, x.tags) ∷ es) rest
      | false ↦ rest
    ]

-- the number that the next table gets is no subtable's
pub next_absent : (c : Catalog) (es : List (ℕ × List Cell)) (k : ℕ) → es ≡ subtables_of c → k ≡ length c.tables + 1 → IsAbsent k es
next_absent c es k e is = rw (e, is) ((is_last 1 c.tables (length c.tables + 1) (omega arith)).absent)

-- what is kept beside a catalog has its subtables after an entry too
pub subtables_after : (w : What) (v : ℕ) (c : Catalog) (k : Kept) → k.subtables ≡ subtables_of c → (kept_after w v c k).subtables ≡ subtables_of (with_what w c)
subtables_after (what.MakeStable name schema) v c k e = e
subtables_after (what.MakeTable name columns) v c k e = e ∙ sym (one_more 1 c.tables (record { name = name; parent = None; columns = columns; tags = [] }) ∙ append-nil (subtables_of c))
subtables_after (what.MakeSub name stable tags) v c k e =
    let table : TableDef = record { name = name; parent = Some stable; columns = []; tags = tags } in
    ap (with_subtable (length c.tables + 1, tags)) e
    ∙ (is_last 1 c.tables (length c.tables + 1) (omega arith)).placed tags
    ∙ ap (λ n. subtables_of c ++ (n, tags) ∷ []) (omega arith)
    ∙ sym (one_more 1 c.tables table)
subtables_after (what.Put puts) v c k e = e
subtables_after (what.Cut table lo hi) v c k e = e
subtables_after (what.MakeStream def) v c k e = e
subtables_after (what.DropStream n) v c k e = e
subtables_after (what.Edge edge) v c k e = e
subtables_after (what.Step stream upto moment) v c k e = e
subtables_after what.Halt v c k e = e

pub kept_right : (w : What) (v : ℕ) (c d : Catalog) (k l : Kept) → k.subtables ≡ subtables_of c → l ≡ kept_after w v c k → d ≡ with_what w c → l.subtables ≡ subtables_of d
kept_right w v c d k l right kept changed = rw (kept, changed) (subtables_after w v c k right)
