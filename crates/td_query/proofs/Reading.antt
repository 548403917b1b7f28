-- What is kept while the tables of a plan are read and their rows are summed up.
use Rattle.std.proofs.Common.{◌≡◌, ◌≢◌, inl, inr, ◌≤◌, ◌<◌, ◌+◌, ℕ, zero, suc, Bool, true, false, cond, ◌&&◌, ◌==◌, nat_le, nat_lt, List, [], ◌∷◌, filter, map, drop, length, insert, slice_set, Option, Some, None, IsSome, true≢false, refl, sym, ap, ◌∙◌, subst, arith, add-one}
use Rattle.std.specs.Prelude.{IfSome}
use Rattle.std.specs.BTreeMap.{BTreeMap, is_at}
use Rattle.std.specs.Map.{lookup}
use Rattle.std.specs.Ordering.{nat_cmp}
use Rattle.std.proofs.lemmas.List.{length-map}
use Rattle.std.specs.List.{AllByRecursion, slice_get}
use Rattle.std.specs.Option.{unwrap_or}
use Rattle.std.specs.declared.cmp.Ordering.TheVariants.{Less}
use Rattle.std.proofs.lemmas.Bool.{and_parts}
use Rattle.std.proofs.lemmas.Bool.Decides.{nat_tests}
use Rattle.td_aggr.specs.Aggregates.{HaveOwnKeys}
use Rattle.td_layer.specs.Keys.{key_cmp, AllAfter, InKeyOrder}
use Rattle.td_layer.specs.Scans.{rows_in}
use Rattle.td_layer.specs.declared.values.Cell.{Cell}
use Rattle.td_layer.specs.declared.values.Key.{Key}
use Rattle.td_layer.specs.declared.values.Row.{Row}
use Rattle.td_model.specs.State.{Rows}
use Rattle.td_model.specs.declared.plan.Plan.{Plan}
use Rattle.td_query.specs.Planned.{keyed, tables_from, tables_of, picked_in}
use Rattle.td_query.specs.Read.{parts_of, parts_in, put_at, made_group, IsOpened}
use Rattle.td_query.specs.Sums.{Sum, sum_of}
use Rattle.td_query.specs.Summed.{AreSums, AllKeys, AllGroups}
use Rattle.td_query.specs.Totals.{WithSums, IsSummed, AreSummed, rises_after, rises, TablesRise}
use Rattle.td_query.specs.declared.frames.Frame.{Frame}
use Rattle.td_query.proofs.Apart.{keys_group}
use Rattle.td_query.proofs.TableByTable.{drop_at, drop_past}
use Rattle.td_verdict.specs.Groups.{Listed, Grouped, is_picked, with_rows, empty_group, put_group, put_tables, first_groups}
use Rattle.td_verdict.specs.Windowed.{Keyed}
use Rattle.td_verdict.specs.declared.comparison.Comparison.{Comparison}

-- ---- the rows of one table have keys of their own
module _ (n lo hi : ℕ) (test : Keyed → Bool) where
  abbrev is_in : Keyed → Bool
  is_in e = (e.0.table == n) && (nat_le lo e.0.ts && nat_le e.0.ts hi)

  abbrev of_table : Rows → Rows
  of_table es = filter test (map (keyed n) (map (λ (e : Keyed). (e.0.ts, e.1)) es))

  abbrev read : Rows → Rows
  read es = of_table (filter is_in es)

  in_table : (e : Keyed) → is_in e ≡ true → e.0.table ≡ n
  in_table e is = let here : (e.0.table == n) ≡ true = (and_parts (e.0.table == n) (nat_le lo e.0.ts && nat_le e.0.ts hi) is).0 in grind (arith, nat_tests)

  module _ (k : Key) (at : k.table ≡ n) where
    abbrev mine : Key
    mine = record { table = n; ts = k.ts }

    differs : (e : Keyed) → e.0.table ≡ n → key_cmp k e.0 ≡ Less → (keyed n (e.0.ts, e.1)).0 ≢ mine
    differs e is less same = let t : e.0.ts ≡ k.ts = ap (λ (x : Key). x.ts) same in grind (arith, nat_tests)

    picked_apart : (e : Keyed) (es : Rows) (b : Bool) → e.0.table ≡ n → key_cmp k e.0 ≡ Less → AllByRecursion (λ (s : Keyed). s.0 ≢ mine) es → AllByRecursion (λ (s : Keyed). s.0 ≢ mine) (cond b (keyed n (e.0.ts, e.1) ∷ es) es)
    picked_apart e es true is less rest = (differs e is less, rest)
    picked_apart e es false is less rest = rest

    in_apart : (e : Keyed) (es : Rows) (b : Bool) → is_in e ≡ b → key_cmp k e.0 ≡ Less → AllByRecursion (λ (s : Keyed). s.0 ≢ mine) (of_table es) → AllByRecursion (λ (s : Keyed). s.0 ≢ mine) (of_table (cond b (e ∷ es) es))
    in_apart e es true is less rest = picked_apart e (of_table es) (test (keyed n (e.0.ts, e.1))) (in_table e is) less rest
    in_apart e es false is less rest = rest

    all_apart : (es : Rows) → AllAfter key_cmp k es → AllByRecursion (λ (s : Keyed). s.0 ≢ mine) (read es)
    all_apart [] after = tt
    all_apart (e ∷ es) after = in_apart e (filter is_in es) (is_in e) refl after.0 (all_apart es after.1)

  own_picked : (e : Keyed) (es : Rows) (b : Bool) → AllByRecursion (λ (s : Keyed). s.0 ≢ (keyed n (e.0.ts, e.1)).0) es → HaveOwnKeys es → HaveOwnKeys (cond b (keyed n (e.0.ts, e.1) ∷ es) es)
  own_picked e es true apart rest = (apart, rest)
  own_picked e es false apart rest = rest

  own_in : (e : Keyed) (es : Rows) (b : Bool) → is_in e ≡ b → AllAfter key_cmp e.0 es → HaveOwnKeys (read es) → HaveOwnKeys (of_table (cond b (e ∷ filter is_in es) (filter is_in es)))
  own_in e es true is after rest = own_picked e (read es) (test (keyed n (e.0.ts, e.1))) (all_apart e.0 (in_table e is) es after) rest
  own_in e es false is after rest = rest

  own_read : (es : Rows) → InKeyOrder es → HaveOwnKeys (read es)
  own_read [] order = tt
  own_read (e ∷ es) order = own_in e es (is_in e) refl order.0 (own_read es order.1)

  table_at : (e : ℕ × Row) (es : Rows) (b : Bool) → AllKeys (λ k. k.table ≡ n) es → AllKeys (λ k. k.table ≡ n) (cond b (keyed n e ∷ es) es)
  table_at e es true rest = (refl, rest)
  table_at e es false rest = rest

  pub table_is : (found : List (ℕ × Row)) → AllKeys (λ k. k.table ≡ n) (filter test (map (keyed n) found))
  table_is [] = tt
  table_is (e ∷ es) = table_at e (filter test (map (keyed n) es)) (test (keyed n e)) (table_is es)

pub own_keys : (p : Plan) (ps : List Comparison) (t : Listed) (all : Rows) → InKeyOrder all → HaveOwnKeys (picked_in p ps all t)
own_keys p ps t all order = own_read t.number p.lo p.hi (is_picked p.schema.columns ps t) all order

pub of_its_table : (p : Plan) (ps : List Comparison) (t : Listed) (all : Rows) → AllKeys (λ k. k.table ≡ t.number) (picked_in p ps all t)
of_its_table p ps t all = table_is t.number p.lo p.hi (is_picked p.schema.columns ps t) (rows_in t.number p.lo p.hi all)

-- ---- rows of a table are apart from those of other tables
apart_from : (n : ℕ) (e : Keyed) → e.0.table ≡ n → (rows : Rows) → AllKeys (λ k. k.table ≢ n) rows → AllByRecursion (λ (s : Keyed). s.0 ≢ e.0) rows
apart_from n e is [] others = tt
apart_from n e is (s ∷ rows) others = (λ same. others.0 (ap (λ (k : Key). k.table) same ∙ is), apart_from n e is rows others.1)

pub apart_rows : (n : ℕ) (es rows : Rows) → AllKeys (λ k. k.table ≡ n) es → AllKeys (λ k. k.table ≢ n) rows → AllByRecursion (λ (e : Keyed). AllByRecursion (λ (s : Keyed). s.0 ≢ e.0) rows) es
apart_rows n [] rows are others = tt
apart_rows n (e ∷ es) rows are others = (apart_from n e are.0 rows others, apart_rows n es rows are.1 others)

-- ---- the group of a part
module _ (f : Frame) (places : List (Option ℕ)) where
  summed_parts : (cs : List WithSums) (gs : List Grouped) → AreSummed f places cs gs → parts_in gs ≡ parts_of cs
  summed_parts [] [] all = refl
  summed_parts [] (g ∷ gs) all = absurd all
  summed_parts (c ∷ cs) [] all = absurd all
  summed_parts (c ∷ cs) (g ∷ gs) all =
      ap (λ p. p ∷ parts_in gs) (sym all.0.part) ∙ ap (λ l. c.part ∷ l) (summed_parts cs gs all.1)

  abbrev found_at : List (ℕ × Sum) → ℕ → Option Sum
  found_at es end = lookup (is_at (nat_cmp end)) es

  nothing : (end : ℕ) → IsSome (found_at [] end) → ⊥
  nothing end there = true≢false (sym there)

  pub no_sums : (fresh : BTreeMap ℕ Sum) → fresh.entries ≡ [] → AreSums f places fresh []
  no_sums fresh none = record {
    sums = λ end is. ap (λ (es : List (ℕ × Sum)). unwrap_or (found_at es end) (sum_of places [])) none;
    ends = λ end there. absurd (nothing end (subst (λ (es : List (ℕ × Sum)). IsSome (found_at es end)) none there));
  }

  insert_summed : (cs : List WithSums) (gs : List Grouped) (at : ℕ) (c : WithSums) (g : Grouped) → AreSummed f places cs gs → IsSummed f places c g → at ≤ length cs → AreSummed f places (insert cs at c) (insert gs at g)
  insert_summed cs gs zero c g all one h = (one, all)
  insert_summed [] gs (suc at) c g all one h = absurd (omega arith)
  insert_summed (x ∷ cs) [] (suc at) c g all one h = absurd all
  insert_summed (x ∷ cs) (y ∷ gs) (suc at) c g all one h = (all.0, insert_summed cs gs at c g all.1 one (omega arith))

  insert_keys : (K : Key → Type 0) (gs : List Grouped) (at : ℕ) (part : List Cell) → AllGroups K gs → AllGroups K (insert gs at (empty_group part))
  insert_keys K gs zero part all = (tt, all)
  insert_keys K [] (suc at) part all = (tt, tt)
  insert_keys K (g ∷ gs) (suc at) part all = (all.0, insert_keys K gs at part all.1)

  -- groups among which that of a part stands at a place
  pub record Opened (K : Key → Type 0) (part : List Cell) (rows : Rows) (new : List WithSums) (gs : List Grouped) (at : ℕ) : Type 0 where
    pub groups : List Grouped
    pub summed : AreSummed f places new groups
    pub keys : AllGroups K groups
    pub same : put_group part rows gs ≡ put_at at rows groups

  pub opened : (K : Key → Type 0) (part : List Cell) (rows : Rows) (fresh : BTreeMap ℕ Sum) (old new : List WithSums) (gs : List Grouped) (at : ℕ) → fresh.entries ≡ [] → IsOpened part fresh old new at
      → AreSummed f places old gs → AllGroups K gs → Opened K part rows new gs at
  opened K part rows fresh old new gs at none (inside, inl (is, stands)) all keys = record {
    groups = gs;
    summed = subst (λ (l : List WithSums). AreSummed f places l gs) (sym is) all;
    keys = keys;
    same = stands.1 gs rows (summed_parts old gs all);
  }
  opened K part rows fresh old new gs at none (inside, inr (is, goes)) all keys =
      let long : length (parts_of old) ≡ length old = length-map old (λ (g : WithSums). g.part) in
      let low = goes.0 in
      record {
        groups = insert gs at (empty_group part);
        summed = subst (λ (l : List WithSums). AreSummed f places l (insert gs at (empty_group part))) (sym is)
            (insert_summed old gs at (made_group part fresh) (empty_group part) all (record { part = refl; sums = no_sums fresh none }) (omega (arith, long, low)));
        keys = insert_keys K gs at part keys;
        same = goes.1 gs rows (summed_parts old gs all);
      }

  pub set_summed : (K : Key → Type 0) (cs : List WithSums) (gs : List Grouped) (at : ℕ) (c next : WithSums) (rows : Rows) → slice_get cs at ≡ Some c → AreSummed f places cs gs → AllGroups K gs
      → ((g : Grouped) → IsSummed f places c g → AllKeys K g.rows → IsSummed f places next (with_rows g rows)) → AreSummed f places (slice_set cs at next) (put_at at rows gs)
  set_summed K [] gs at c next rows here all keys step = absurd (cc)
  set_summed K (x ∷ cs) [] at c next rows here all keys step = absurd all
  set_summed K (x ∷ cs) (g ∷ gs) zero c next rows here all keys step =
      let same : x ≡ c = cc in
      (step g (subst (λ (y : WithSums). IsSummed f places y g) same all.0) keys.0, all.1)
  set_summed K (x ∷ cs) (g ∷ gs) (suc at) c next rows here all keys step =
      (all.0, set_summed K cs gs at c next rows here all.1 keys.1 step)

-- ---- table by table
later : (n m : ℕ) → n < m → (ms : List ℕ) → AllByRecursion (λ k. m < k) ms → AllByRecursion (λ k. n < k) ms
later n m h [] all = tt
later n m h (k ∷ ms) all = let a = all.0 in (omega (arith, a, h), later n m h ms all.1)

all_later : (n : ℕ) (ms : List ℕ) → rises_after n ms ≡ true → AllByRecursion (λ k. n < k) ms
all_later n [] e = tt
all_later n (m ∷ ms) e =
    let both = and_parts (nat_lt n m) (rises_after m ms) e in
    let test = both.0 in
    let less : n < m = grind (arith, nat_tests) in
    (less, later n m less ms (all_later m ms both.1))

numbers_later : (n : ℕ) (ns : List ℕ) (parts : List (List Cell)) (names : List (List ℕ)) (tags : List (List Cell)) → AllByRecursion (λ k. n < k) ns → AllByRecursion (λ (u : Listed). n < u.number) (tables_from ns parts names tags)
numbers_later n [] parts names tags all = tt
numbers_later n (k ∷ ns) [] names tags all = tt
numbers_later n (k ∷ ns) (part ∷ parts) [] tags all = tt
numbers_later n (k ∷ ns) (part ∷ parts) (name ∷ names) [] all = tt
numbers_later n (k ∷ ns) (part ∷ parts) (name ∷ names) (cells ∷ tags) all = (all.0, numbers_later n ns parts names tags all.1)

rises_behind : (n : ℕ) (ms : List ℕ) → rises_after n ms ≡ true → rises ms ≡ true
rises_behind n [] e = refl
rises_behind n (m ∷ ms) e = (and_parts (nat_lt n m) (rises_after m ms) e).1

pub tables_rise : (ns : List ℕ) (parts : List (List Cell)) (names : List (List ℕ)) (tags : List (List Cell)) → rises ns ≡ true → TablesRise (tables_from ns parts names tags)
tables_rise [] parts names tags e = tt
tables_rise (n ∷ ns) [] names tags e = tt
tables_rise (n ∷ ns) (part ∷ parts) [] tags e = tt
tables_rise (n ∷ ns) (part ∷ parts) (name ∷ names) [] e = tt
tables_rise (n ∷ ns) (part ∷ parts) (name ∷ names) (cells ∷ tags) e =
    (numbers_later n ns parts names tags (all_later n ns e), tables_rise ns parts names tags (rises_behind n ns e))

-- no row of groups is of one of some tables
abbrev pub AreFresh : List Listed → List Grouped → Type 0
AreFresh ts gs = AllByRecursion (λ (t : Listed). AllGroups (λ k. k.table ≢ t.number) gs) ts

differ : (n m : ℕ) → n < m → (rows : Rows) → AllKeys (λ k. k.table ≡ n) rows → AllKeys (λ k. k.table ≢ m) rows
differ n m h [] all = tt
differ n m h (e ∷ es) all = let a = all.0 in (λ same. absurd (omega (arith, h, a, same)), differ n m h es all.1)

fresh_behind : (n : ℕ) (part : List Cell) (rows : Rows) (gs : List Grouped) (ts : List Listed) → AllKeys (λ k. k.table ≡ n) rows → AllByRecursion (λ (u : Listed). n < u.number) ts → AreFresh ts gs → AreFresh ts (put_group part rows gs)
fresh_behind n part rows gs [] are rest all = tt
fresh_behind n part rows gs (t ∷ ts) are rest all =
    (keys_group (λ k. k.table ≢ t.number) part rows gs all.0 (differ n t.number rest.0 rows are), fresh_behind n part rows gs ts are rest.1 all.1)

module _ (f : Frame) (places : List (Option ℕ)) (p : Plan) (ps : List Comparison) (first : List Grouped) where
  -- the groups that were read have the sums of their rows, and the rows of the tables that are left, put among them, are all
  pub record HasRead (left : List Listed) (all : Rows) (now : List WithSums) : Type 0 where
    pub groups : List Grouped
    pub summed : AreSummed f places now groups
    pub whole : put_tables (picked_in p ps all) groups left ≡ put_tables (picked_in p ps all) first (tables_of p)
    pub fresh : AreFresh left groups
    pub rise : TablesRise left

  abbrev pub Sums : List Listed → Option Rows → List WithSums → Type 0
  Sums left rows now = IfSome rows (λ all. HasRead left all now)

  fresh_first : (one : Bool) (ts : List Listed) → AreFresh ts (first_groups one)
  fresh_first one [] = tt
  fresh_first true (t ∷ ts) = ((tt, tt), fresh_first true ts)
  fresh_first false (t ∷ ts) = (tt, fresh_first false ts)

  pub sums_first : (one : Bool) (rows : Option Rows) (now : List WithSums) → first ≡ first_groups one → AreSummed f places now (first_groups one) → rises p.tables ≡ true → Sums (tables_of p) rows now
  sums_first one None now is all e = tt
  sums_first one (Some rows) now is all e = record {
    groups = first_groups one;
    summed = all;
    whole = ap (λ gs. put_tables (picked_in p ps rows) gs (tables_of p)) (sym is);
    fresh = fresh_first one (tables_of p);
    rise = tables_rise p.tables p.parts p.names p.tags e;
  }

  abbrev pub Put : Listed → Rows → List WithSums → List WithSums → Type 0
  Put t all now next = (gs : List Grouped) → AllGroups (λ k. k.table ≢ t.number) gs → AreSummed f places now gs → AreSummed f places next (put_group t.part (picked_in p ps all t) gs)

  next_one : (t : Listed) (ts : List Listed) (all : Rows) (now next : List WithSums) → Put t all now next → HasRead (t ∷ ts) all now → HasRead ts all next
  next_one t ts all now next put read = record {
    groups = put_group t.part (picked_in p ps all t) read.groups;
    summed = put read.groups read.fresh.0 read.summed;
    whole = read.whole;
    fresh = fresh_behind t.number t.part (picked_in p ps all t) read.groups ts (of_its_table p ps t all) read.rise.0 read.fresh.1;
    rise = read.rise.1;
  }

  pub sums_next : (at : ℕ) (t : Listed) (rows : Option Rows) (now next : List WithSums) → slice_get (tables_of p) at ≡ Some t → IfSome rows (λ all. Put t all now next)
      → Sums (drop at (tables_of p)) rows now → Sums (drop (at + 1) (tables_of p)) rows next
  sums_next at t None now next here put so = so
  sums_next at t (Some all) now next here put so =
      subst (λ ts. HasRead ts all next) (ap (λ n. drop n (tables_of p)) (sym (add-one at)))
      (next_one t (drop (suc at) (tables_of p)) all now next put (subst (λ ts. HasRead ts all now) (drop_at (tables_of p) at t here) so))

  pub sums_past : (at : ℕ) (rows : Option Rows) (now : List WithSums) → slice_get (tables_of p) at ≡ None → Sums (drop at (tables_of p)) rows now → Sums (drop (at + 1) (tables_of p)) rows now
  sums_past at rows now none so =
      subst (λ ts. Sums ts rows now) (sym (drop_past (tables_of p) at none) ∙ ap (λ n. drop n (tables_of p)) (sym (add-one at))) so

  pub sums_end : (left : List Listed) (rows : Option Rows) (now : List WithSums) → left ≡ [] → Sums left rows now → IfSome rows (λ all. AreSummed f places now (put_tables (picked_in p ps all) first (tables_of p)))
  sums_end left None now e so = so
  sums_end left (Some all) now e so =
      subst (λ (gs : List Grouped). AreSummed f places now gs) (ap (put_tables (picked_in p ps all) so.groups) (sym e) ∙ so.whole) so.summed
