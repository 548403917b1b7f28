-- What a memtable does to the row of a key, after a put and after a cut.
use Rattle.std.proofs.Common.{◌≡◌, ℕ, ◌+◌, ◌≤◌, max, eqb, leb, Bool, true, false, cond, ◌&&◌, ◌||◌, not, List, [], ◌∷◌, map, Option, Some, None, refl, sym, ap, subst, ◌∙◌, arith}
use Rattle.std.specs.List.{list_any}
use Rattle.std.specs.BTreeMap.{insert_entry, is_at}
use Rattle.std.specs.FinMap.Entries.{find}
use Rattle.std.specs.Ordering.{eq_by_cmp, is_eq, match_ordering}
use Rattle.std.specs.declared.cmp.Ordering.{Ordering}
use Rattle.std.specs.declared.cmp.Ordering.TheVariants.{Less, Equal, Greater}
use Rattle.std.proofs.lemmas.Bool.{eq-eqb}
use Rattle.std.proofs.lemmas.Bool.Decides.{nat_tests}
use Rattle.td_layer.specs.declared.values.Key.{Key}
use Rattle.td_layer.specs.declared.values.Row.{Row}
use Rattle.td_layer.specs.declared.parts.Partial.{Partial}
use Rattle.td_layer.specs.Keys.{key_cmp}
use Rattle.td_layer.specs.Parts.{lay, act, HaveOneWidth}
use Rattle.td_layer.specs.Scans.{is_cut}
use Rattle.td_layer.proofs.Composed.{acts}
use Rattle.td_model.specs.State.{is_cut as is_in_cut}
use Rattle.td_memtree.specs.Keys.{item_at, with_item}
use Rattle.td_memtree.specs.Within.{is_within, pairs_within, pairs_without}
use Rattle.td_memtable.specs.Contents.{Contents, key_at, put_on, with_put, later_end, with_cut, table_cuts}
use Rattle.td_fileset.specs.Stack.{part_of}
use Rattle.td_fileset.specs.Layered.{whole, last_ts, memtable_layer}
use Rattle.td_fileset.proofs.Filters.{in_span, span_of_keys}
use Rattle.td_fileset.proofs.Ordered.{keys_tie}
use Rattle.td_fileset.proofs.Ranged.{only_found}
use Rattle.td_fileset.proofs.Rows.{equal_keys}
use Rattle.td_levels.proofs.Found.{looked_up, find_inserted}

-- the row of a key of a table, over the row below
abbrev pub mem_row : ℕ → Key → Contents → Option Row → Option Row
mem_row table q m row = act (part_of q (memtable_layer (whole table []) m)) row

abbrev pub acted : Bool → Option Partial → Option Row → Option Row
acted cut put row = act (record { cut = cut; put = put }) row

-- ---- puts

pub put_in_layer : (table : ℕ) (q : Key) (puts : List (Key × Partial)) → find key_cmp q (pairs_within (key_at table 0) (key_at table last_ts) puts) ≡ cond (in_span table 0 last_ts q) (find key_cmp q puts) None
put_in_layer table q puts =
    only_found (is_within (key_at table 0) (key_at table last_ts)) puts q
    ∙ ap (λ (b : Bool). cond b (find key_cmp q puts) None) (span_of_keys table 0 last_ts q)

-- a put over that of its key does what both do
lay_on : (cut : Bool) (p : Partial) (o : Option Partial) (row : Option Row) → HaveOneWidth (Some p) o → acted cut (Some (put_on p o)) row ≡ Some (lay p (acted cut o row))
lay_on cut p None row w = refl
lay_on cut p (Some under) row w = acts false (Some p) cut (Some under) row w

pub in_own_span : (q : Key) → q.ts ≤ last_ts → in_span q.table 0 last_ts q ≡ true
in_own_span q h = own q.table q.ts last_ts h
  where
    own : (table ts end : ℕ) → ts ≤ end → (eqb table table && (leb 0 ts && leb ts end)) ≡ true
    own table ts end h = grind (arith, nat_tests)

pub put_row : (q k : Key) (p : Partial) (m : Contents) (row : Option Row) → k.ts ≤ last_ts → HaveOneWidth (Some p) (item_at k m.puts)
    → mem_row q.table q (with_put k p m) row ≡ cond (eq_by_cmp key_cmp q k) (Some (lay p (mem_row q.table q m row))) (mem_row q.table q m row)
put_row q k p m row time w =
    ap (λ (o : Option Partial). acted (is_cut q (table_cuts q.table m.cuts)) o row) (put_in_layer q.table q (with_put k p m).puts ∙ ap (λ (o : Option Partial). cond (in_span q.table 0 last_ts q) o None) (find_inserted q k (put_on p (item_at k m.puts)) m.puts))
    ∙ by (eq_by_cmp key_cmp q k) refl
    ∙ ap (λ (o : Option Partial). cond (eq_by_cmp key_cmp q k) (Some (lay p (acted (is_cut q (table_cuts q.table m.cuts)) o row))) (acted (is_cut q (table_cuts q.table m.cuts)) o row)) (sym (put_in_layer q.table q m.puts))
  where
    by : (b : Bool) → eq_by_cmp key_cmp q k ≡ b
        → acted (is_cut q (table_cuts q.table m.cuts)) (cond (in_span q.table 0 last_ts q) (cond b (Some (put_on p (item_at k m.puts))) (find key_cmp q m.puts)) None) row
        ≡ cond b (Some (lay p (acted (is_cut q (table_cuts q.table m.cuts)) (cond (in_span q.table 0 last_ts q) (find key_cmp q m.puts) None) row))) (acted (is_cut q (table_cuts q.table m.cuts)) (cond (in_span q.table 0 last_ts q) (find key_cmp q m.puts) None) row)
    by true e =
        let same : q ≡ k = equal_keys q k e in
        let inside : in_span q.table 0 last_ts q ≡ true = in_own_span q (subst (λ (x : Key). x.ts ≤ last_ts) (sym same) time) in
        let its : item_at k m.puts ≡ find key_cmp q m.puts = looked_up k m.puts ∙ ap (λ (x : Key). find key_cmp x m.puts) (sym same) in
        ap (λ (b : Bool). acted (is_cut q (table_cuts q.table m.cuts)) (cond b (Some (put_on p (item_at k m.puts))) None) row) inside
        ∙ lay_on (is_cut q (table_cuts q.table m.cuts)) p (item_at k m.puts) row w
        ∙ ap (λ (o : Option Partial). Some (lay p (acted (is_cut q (table_cuts q.table m.cuts)) o row))) its
        ∙ ap (λ (b : Bool). Some (lay p (acted (is_cut q (table_cuts q.table m.cuts)) (cond b (find key_cmp q m.puts) None) row))) (sym inside)
    by false e = refl

-- ---- cuts

-- a cut of a table lies over a key
abbrev pub hits : ℕ → Key → Key × ℕ → Bool
hits table q c = is_within (key_at table 0) (key_at table last_ts) c.0 && (leb c.0.ts q.ts && leb q.ts c.1)

pub cuts_hit : (q : Key) (cuts : List (Key × ℕ)) → is_cut q (table_cuts q.table cuts) ≡ list_any (hits q.table q) cuts
cuts_hit q [] = refl
cuts_hit q (c ∷ cuts) = by (is_within (key_at q.table 0) (key_at q.table last_ts) c.0) (cuts_hit q cuts)
  where
    by : (b : Bool) → is_cut q (table_cuts q.table cuts) ≡ list_any (hits q.table q) cuts
        → is_cut q (map (λ (r : ℕ × ℕ). record { table = q.table; lo = r.0; hi = r.1 }) (map (λ (c : Key × ℕ). (c.0.ts, c.1)) (cond b (c ∷ pairs_within (key_at q.table 0) (key_at q.table last_ts) cuts) (pairs_within (key_at q.table 0) (key_at q.table last_ts) cuts))))
        ≡ ((b && (leb c.0.ts q.ts && leb q.ts c.1)) || list_any (hits q.table q) cuts)
    by true rest = ap (λ (b : Bool). (b && (leb c.0.ts q.ts && leb q.ts c.1)) || is_cut q (table_cuts q.table cuts)) (eq-eqb q.table q.table refl) ∙ ap (λ (b : Bool). (leb c.0.ts q.ts && leb q.ts c.1) || b) rest
    by false rest = rest

module _ (test : Key × ℕ → Bool) (k : Key) (hi : ℕ) (longer : (h : ℕ) → test (k, max hi h) ≡ (test (k, hi) || test (k, h))) where
  under : (x y h r : Bool) → (x || r) ≡ (y || r) → (x || (h || r)) ≡ (y || (h || r))
  under true true h r e = refl
  under false false h r e = refl
  under true false true r e = refl
  under true false false r e = e
  under false true true r e = refl
  under false true false r e = e

  twice : (a h r : Bool) → ((a || h) || (h || r)) ≡ (a || (h || r))
  twice true h r = refl
  twice false true r = refl
  twice false false r = refl

  joined : (a h r : Bool) → ((a || h) || r) ≡ (a || (h || r))
  joined true h r = refl
  joined false h r = refl

  moved : (h a r : Bool) → (h || (a || r)) ≡ (a || (h || r))
  moved true true r = refl
  moved true false r = refl
  moved false true r = refl
  moved false false r = refl

  -- the later end hits nothing that those of the key don't
  covered : (cs : List (Key × ℕ)) → (test (k, later_end hi (item_at k cs)) || list_any test cs) ≡ (test (k, hi) || list_any test cs)
  covered [] = refl
  covered (c ∷ cs) = by (is_at (key_cmp k) c.0) refl (covered cs)
    where
      by : (b : Bool) → is_at (key_cmp k) c.0 ≡ b → (test (k, later_end hi (item_at k cs)) || list_any test cs) ≡ (test (k, hi) || list_any test cs)
          → (test (k, later_end hi (cond b (Some c.1) (item_at k cs))) || (test c || list_any test cs)) ≡ (test (k, hi) || (test c || list_any test cs))
      by true e rest =
          let same : test (k, c.1) ≡ test c = ap (λ (x : Key). test (x, c.1)) (equal_keys k c.0 e) in
          ap (λ (b : Bool). b || (test c || list_any test cs)) (longer c.1 ∙ ap (λ (b : Bool). test (k, hi) || b) same) ∙ twice (test (k, hi)) (test c) (list_any test cs)
      by false e rest = under (test (k, later_end hi (item_at k cs))) (test (k, hi)) (test c) (list_any test cs) rest

  -- of cuts with one more, which ends as late as the later of both, those and that one hit
  one_more : (cs : List (Key × ℕ)) → list_any test (with_item k (later_end hi (item_at k cs)) cs) ≡ (test (k, hi) || list_any test cs)
  one_more [] = refl
  one_more (c ∷ cs) = by (key_cmp k c.0) refl (one_more cs)
    where
      by : (o : Ordering) → key_cmp k c.0 ≡ o → list_any test (with_item k (later_end hi (item_at k cs)) cs) ≡ (test (k, hi) || list_any test cs)
          → list_any test (match_ordering o ((k, later_end hi (cond (is_eq o) (Some c.1) (item_at k cs))) ∷ c ∷ cs) ((c.0, later_end hi (cond (is_eq o) (Some c.1) (item_at k cs))) ∷ cs) (c ∷ insert_entry key_cmp cs k (later_end hi (cond (is_eq o) (Some c.1) (item_at k cs)))))
          ≡ (test (k, hi) || (test c || list_any test cs))
      by Less e rest = under (test (k, later_end hi (item_at k cs))) (test (k, hi)) (test c) (list_any test cs) (covered cs)
      by Equal e rest =
          let same : k ≡ c.0 = keys_tie k c.0 e in
          ap (λ (x : Key). test (x, max hi c.1) || list_any test cs) (sym same)
          ∙ ap (λ (b : Bool). b || list_any test cs) (longer c.1 ∙ ap (λ (x : Key). test (k, hi) || test (x, c.1)) same)
          ∙ joined (test (k, hi)) (test c) (list_any test cs)
      by Greater e rest = ap (λ (b : Bool). test c || b) rest ∙ moved (test c) (test (k, hi)) (list_any test cs)

hits_longer : (q k : Key) (hi h : ℕ) → hits q.table q (k, max hi h) ≡ (hits q.table q (k, hi) || hits q.table q (k, h))
hits_longer q k hi h = by (is_within (key_at q.table 0) (key_at q.table last_ts) k)
  where
    ends : (lo ts hi h : ℕ) → (leb lo ts && leb ts (max hi h)) ≡ ((leb lo ts && leb ts hi) || (leb lo ts && leb ts h))
    ends lo ts hi h = grind (arith, nat_tests)

    by : (b : Bool) → (b && (leb k.ts q.ts && leb q.ts (max hi h))) ≡ ((b && (leb k.ts q.ts && leb q.ts hi)) || (b && (leb k.ts q.ts && leb q.ts h)))
    by true = ends k.ts q.ts hi h
    by false = refl

hits_own : (q : Key) (table lo hi : ℕ) → lo ≤ last_ts → hits q.table q (key_at table lo, hi) ≡ in_span table lo hi q
hits_own q table lo hi le = ap (λ (b : Bool). b && (leb lo q.ts && leb q.ts hi)) (span_of_keys q.table 0 last_ts (key_at table lo)) ∙ own q.table table lo last_ts le (leb lo q.ts && leb q.ts hi)
  where
    same_test : (a b : ℕ) → eqb b a ≡ eqb a b
    same_test a b = grind (arith, nat_tests)

    ends : (lo last : ℕ) → lo ≤ last → (leb 0 lo && leb lo last) ≡ true
    ends lo last le = grind (arith, nat_tests)

    and_true : (a : Bool) → (a && true) ≡ a
    and_true true = refl
    and_true false = refl

    own : (a b lo last : ℕ) → lo ≤ last → (r : Bool) → ((eqb b a && (leb 0 lo && leb lo last)) && r) ≡ (eqb a b && r)
    own a b lo last le r = ap (λ (x : Bool). (eqb b a && x) && r) (ends lo last le) ∙ ap (λ (x : Bool). x && r) (and_true (eqb b a) ∙ same_test a b)

pub cut_row : (q : Key) (table lo hi : ℕ) (m : Contents) (row : Option Row) → lo ≤ last_ts → mem_row q.table q (with_cut table lo hi m) row ≡ cond (is_in_cut table lo hi q) None (mem_row q.table q m row)
cut_row q table lo hi m row le = by (leb lo hi) refl
  where
    kept : List (Key × Partial)
    kept = pairs_without (key_at table lo) (key_at table hi) m.puts

    none : (t : Bool) (lo hi ts : ℕ) → leb lo hi ≡ false → (t && (leb lo ts && leb ts hi)) ≡ false
    none true lo hi ts e = grind (arith, nat_tests)
    none false lo hi ts e = refl

    puts_left : find key_cmp q (pairs_within (key_at q.table 0) (key_at q.table last_ts) kept) ≡ cond (in_span q.table 0 last_ts q) (cond (not (in_span table lo hi q)) (find key_cmp q m.puts) None) None
    puts_left =
        put_in_layer q.table q kept
        ∙ ap (λ (o : Option Partial). cond (in_span q.table 0 last_ts q) o None) (only_found (λ (key : Key). not (is_within (key_at table lo) (key_at table hi) key)) m.puts q
        ∙ ap (λ (b : Bool). cond (not b) (find key_cmp q m.puts) None) (span_of_keys table lo hi q))

    cuts_now : is_cut q (table_cuts q.table (with_item (key_at table lo) (later_end hi (item_at (key_at table lo) m.cuts)) m.cuts)) ≡ (in_span table lo hi q || is_cut q (table_cuts q.table m.cuts))
    cuts_now =
        cuts_hit q (with_item (key_at table lo) (later_end hi (item_at (key_at table lo) m.cuts)) m.cuts)
        ∙ one_more (hits q.table q) (key_at table lo) hi (hits_longer q (key_at table lo) hi) m.cuts
        ∙ ap (λ (b : Bool). b || list_any (hits q.table q) m.cuts) (hits_own q table lo hi le)
        ∙ ap (λ (b : Bool). in_span table lo hi q || b) (sym (cuts_hit q m.cuts))

    both : (c s cut : Bool) (o : Option Partial) → acted (c || cut) (cond s (cond (not c) o None) None) row ≡ cond c None (acted cut (cond s o None) row)
    both true true cut o = refl
    both true false cut o = refl
    both false s cut o = refl

    by : (b : Bool) → leb lo hi ≡ b → mem_row q.table q (cond b
        (record { puts = pairs_without (key_at table lo) (key_at table hi) m.puts; cuts = with_item (key_at table lo) (later_end hi (item_at (key_at table lo) m.cuts)) m.cuts; held = m.held + 1 })
        (record { puts = m.puts; cuts = m.cuts; held = m.held + 1 })) row ≡ cond (is_in_cut table lo hi q) None (mem_row q.table q m row)
    by true e =
        (λ i. acted (cuts_now i) (puts_left i) row)
        ∙ both (in_span table lo hi q) (in_span q.table 0 last_ts q) (is_cut q (table_cuts q.table m.cuts)) (find key_cmp q m.puts)
        ∙ ap (λ (o : Option Partial). cond (in_span table lo hi q) None (acted (is_cut q (table_cuts q.table m.cuts)) o row)) (sym (put_in_layer q.table q m.puts))
    by false e = sym (ap (λ (b : Bool). cond b None (mem_row q.table q m row)) (none (eqb q.table table) lo hi q.ts e))
