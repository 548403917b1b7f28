-- The subtables of each supertable, as supertables and tables are added.
use Rattle.std.proofs.Common.{◌≡◌, ℕ, zero, suc, ◌+◌, ◌-◌, ◌<◌, ◌≤◌, ◌==◌, true, false, cond, List, [], ◌∷◌, ◌++◌, map, filter, length, get_or, slice_set, Vec, Global, Option, Some, None, All, refl, sym, ap, subst, ◌∙◌, arith, inl, inr, append-nil, length-append}
use Rattle.std.specs.Option.{option_map_or, ForSome}
use Rattle.std.proofs.lemmas.Bool.{cases_eq, ne_eqb, eq-eqb}
use Rattle.std.proofs.lemmas.List.{map-set, get_or-map, set-get_or, get_or-set_same, get_or-set_other, length-set, map-append}
use Rattle.std.proofs.lemmas.List.Elements.{filter-append}
use Rattle.td_model.specs.declared.catalog.TableDef.{TableDef}
use Rattle.td_verdict.specs.Plans.{Numbered, numbered, is_under}
use Rattle.td_catalog.specs.declared.catalog.Table.{Table}
use Rattle.td_catalog.specs.Kept.{IsNumbered}
use Rattle.td_catalog.specs.Tables.{table_of, HasParent}
use Rattle.td_catalog.specs.Groups.{children_of, group_at, with_child, AreGroups}

-- ---- lists of numbers, kept in vectors
pub items-stay : (xs : List (Vec ℕ Global)) (i : ℕ) (y d : Vec ℕ Global) → i < length xs → y.items ≡ (get_or xs i d).items → map (λ (g : Vec ℕ Global). g.items) (slice_set xs i y) ≡ map (λ (g : Vec ℕ Global). g.items) xs
items-stay xs i y d h e =
    let lists : List (List ℕ) = map (λ (g : Vec ℕ Global). g.items) xs in
    map-set (λ (g : Vec ℕ Global). g.items) xs i y
    ∙ ap (λ l. slice_set lists i l) (e ∙ sym (get_or-map (λ (g : Vec ℕ Global). g.items) xs i d [] h))
    ∙ set-get_or lists i []

pub items-put : (xs : List (Vec ℕ Global)) (i n : ℕ) (y d : Vec ℕ Global) → i < length xs → y.items ≡ (get_or xs i d).items ++ n ∷ [] → map (λ (g : Vec ℕ Global). g.items) (slice_set xs i y) ≡ slice_set (map (λ (g : Vec ℕ Global). g.items) xs) i (get_or (map (λ (g : Vec ℕ Global). g.items) xs) i [] ++ n ∷ [])
items-put xs i n y d h e =
    let lists : List (List ℕ) = map (λ (g : Vec ℕ Global). g.items) xs in
    map-set (λ (g : Vec ℕ Global). g.items) xs i y
    ∙ ap (λ l. slice_set lists i l) (e ∙ ap (λ l. l ++ n ∷ []) (sym (get_or-map (λ (g : Vec ℕ Global). g.items) xs i d [] h)))

-- ---- one more table
numbered_push : (n : ℕ) (ts : List TableDef) (t : TableDef) → numbered n (ts ++ t ∷ []) ≡ numbered n ts ++ (length ts + n, t) ∷ []
numbered_push n [] t =
    let same : n ≡ length {A = TableDef} [] + n = omega arith in
    ap (λ m. (m, t) ∷ []) same
numbered_push n (u ∷ ts) t =
    let next : length ts + (n + 1) ≡ length (u ∷ ts) + n = omega arith in
    ap (λ es. (n, u) ∷ es) (numbered_push (n + 1) ts t ∙ ap (λ m. numbered (n + 1) ts ++ (m, t) ∷ []) next)

under_push : (stable : ℕ) (ts : List TableDef) (t : TableDef) → children_of stable (ts ++ t ∷ []) ≡ children_of stable ts ++ map (λ (e : Numbered). e.0) (cond (is_under stable t) ((length ts + 1, t) ∷ []) [])
under_push stable ts t =
    ap (λ es. map (λ (e : Numbered). e.0) (filter (λ (e : Numbered). is_under stable e.1) es)) (numbered_push 1 ts t)
    ∙ ap (map (λ (e : Numbered). e.0)) (filter-append (λ (e : Numbered). is_under stable e.1) (numbered 1 ts) ((length ts + 1, t) ∷ []))
    ∙ map-append (λ (e : Numbered). e.0) (filter (λ (e : Numbered). is_under stable e.1) (numbered 1 ts)) (cond (is_under stable t) ((length ts + 1, t) ∷ []) [])

-- of another supertable, or of this one
other_child : (stable : ℕ) (ts : List TableDef) (t : TableDef) → is_under stable t ≡ false → children_of stable (ts ++ t ∷ []) ≡ children_of stable ts
other_child stable ts t h =
    under_push stable ts t
    ∙ ap (λ b. children_of stable ts ++ map (λ (e : Numbered). e.0) (cond b ((length ts + 1, t) ∷ []) [])) h
    ∙ append-nil (children_of stable ts)

own_child : (stable : ℕ) (ts : List TableDef) (t : TableDef) → is_under stable t ≡ true → children_of stable (ts ++ t ∷ []) ≡ children_of stable ts ++ (length ts + 1) ∷ []
own_child stable ts t h =
    under_push stable ts t
    ∙ ap (λ b. children_of stable ts ++ map (λ (e : Numbered). e.0) (cond b ((length ts + 1, t) ∷ []) [])) h

module _ (stables : ℕ) (ts : List TableDef) (t : TableDef) (lists : List (List ℕ)) (h : AreGroups stables ts lists) where
  plain_more : t.parent ≡ None → AreGroups stables (ts ++ t ∷ []) lists
  plain_more is = record { count = h.count; each = λ i l. h.each i l ∙ sym (other_child (i + 1) ts t (ap (λ o. option_map_or (λ p. p == (i + 1)) o false) is)) }

  child_at : (stable i : ℕ) → t.parent ≡ Some stable → 1 ≤ stable → stable ≤ stables → i < stables → get_or (with_child (Some stable) (length ts + 1) lists) i [] ≡ children_of (i + 1) (ts ++ t ∷ [])
  child_at stable i is low high l =
      let longer : length lists ≡ stables = h.count in
      let under : is_under (i + 1) t ≡ (stable == (i + 1)) = ap (λ o. option_map_or (λ p. p == (i + 1)) o false) is in
      elim (cases_eq stable (i + 1)) [
        | inl e ↦ (
            let at : i ≡ stable - 1 = omega arith in
            ap (λ j. get_or (with_child (Some stable) (length ts + 1) lists) j []) at
            ∙ get_or-set_same lists (stable - 1) (group_at stable lists ++ (length ts + 1) ∷ []) [] (omega arith)
            ∙ ap (λ l. l ++ (length ts + 1) ∷ []) (ap (λ j. get_or lists j []) (sym at) ∙ h.each i l)
            ∙ sym (own_child (i + 1) ts t (under ∙ eq-eqb stable (i + 1) e)))
        | inr ne ↦ (
            get_or-set_other lists (stable - 1) i (group_at stable lists ++ (length ts + 1) ∷ []) [] (λ e. ne (omega arith))
            ∙ h.each i l
            ∙ sym (other_child (i + 1) ts t (under ∙ ne_eqb stable (i + 1) ne)))
      ]

  child_more : (stable : ℕ) → t.parent ≡ Some stable → 1 ≤ stable → stable ≤ stables → AreGroups stables (ts ++ t ∷ []) (with_child (Some stable) (length ts + 1) lists)
  child_more stable is low high =
      record {
        count = length-set lists (stable - 1) (group_at stable lists ++ (length ts + 1) ∷ []) ∙ h.count;
        each = λ i l. child_at stable i is low high l;
      }

  by_parent : (o : Option ℕ) → t.parent ≡ o → ForSome o (λ stable. IsNumbered stable stables) → AreGroups stables (ts ++ t ∷ []) (with_child o (length ts + 1) lists)
  by_parent None is there = plain_more is
  by_parent (Some stable) is there = child_more stable is ((there stable refl).0) ((there stable refl).1)

pub table_more : (stables : ℕ) (ts : List TableDef) (t : TableDef) (lists : List (List ℕ)) → ForSome t.parent (λ stable. IsNumbered stable stables) → AreGroups stables ts lists → AreGroups stables (ts ++ t ∷ []) (with_child t.parent (length ts + 1) lists)
table_more stables ts t lists there h = by_parent stables ts t lists h t.parent refl there

pub ForSome-numbered : (stables : ℕ) (t : Table) (o : Option ℕ) → HasParent stables t o → ForSome o (λ stable. IsNumbered stable stables)
ForSome-numbered stables t None h = λ stable is. absurd (cc)
ForSome-numbered stables t (Some p) h = λ stable is. let same : p ≡ stable = cc in subst (λ n. IsNumbered n stables) same h

-- ---- one more supertable
not_under : (stables : ℕ) (t : Table) (o : Option ℕ) → HasParent stables t o → option_map_or (λ p. p == (stables + 1)) o false ≡ false
not_under stables t None h = refl
not_under stables t (Some p) h =
    let high : p ≤ stables = h.1 in
    ne_eqb p (stables + 1) (λ e. omega arith)

skip_one : (stable n : ℕ) (t : TableDef) (es : List Numbered) → is_under stable t ≡ false → map (λ (e : Numbered). e.0) (filter (λ (e : Numbered). is_under stable e.1) es) ≡ [] → map (λ (e : Numbered). e.0) (filter (λ (e : Numbered). is_under stable e.1) ((n, t) ∷ es)) ≡ []
skip_one stable n t es out none =
    ap (λ b. map (λ (e : Numbered). e.0) (cond b ((n, t) ∷ filter (λ (e : Numbered). is_under stable e.1) es) (filter (λ (e : Numbered). is_under stable e.1) es))) out ∙ none

none_under : (stables n : ℕ) (ts : List Table) → All (λ t. HasParent stables t t.parent) ts → map (λ (e : Numbered). e.0) (filter (λ (e : Numbered). is_under (stables + 1) e.1) (numbered n (map table_of ts))) ≡ []
none_under stables n [] h = refl
none_under stables n (t ∷ ts) h =
    skip_one (stables + 1) n (table_of t) (numbered (n + 1) (map table_of ts)) (not_under stables t t.parent (h 0 t (omega arith)))
    (none_under stables (n + 1) ts (λ k d l. h (suc k) d (omega arith)))

push_before : (xs : List (List ℕ)) (x : List ℕ) (i : ℕ) → i < length xs → get_or (xs ++ x ∷ []) i [] ≡ get_or xs i []
push_before [] x i h = absurd (omega arith)
push_before (y ∷ xs) x zero h = refl
push_before (y ∷ xs) x (suc i) h = push_before xs x i (omega arith)

push_at : (xs : List (List ℕ)) (x : List ℕ) (i : ℕ) → i ≡ length xs → get_or (xs ++ x ∷ []) i [] ≡ x
push_at [] x zero h = refl
push_at [] x (suc i) h = absurd (omega arith)
push_at (y ∷ xs) x zero h = absurd (omega arith)
push_at (y ∷ xs) x (suc i) h = push_at xs x i (omega arith)

pub stable_more : (stables : ℕ) (ts : List Table) (lists : List (List ℕ)) → All (λ t. HasParent stables t t.parent) ts → AreGroups stables (map table_of ts) lists → AreGroups (stables + 1) (map table_of ts) (lists ++ [] ∷ [])
stable_more stables ts lists parents h =
    let long : length lists ≡ stables = h.count in
    record {
      count = length-append lists ([] ∷ []) ∙ ap (λ n. n + 1) long;
      each = λ i l. elim (cases_eq i stables) [
        | inl e ↦ push_at lists [] i (omega arith) ∙ sym (none_under stables 1 ts parents) ∙ ap (λ n. children_of (n + 1) (map table_of ts)) (sym e)
        | inr ne ↦ push_before lists [] i (omega arith) ∙ h.each i (omega arith)
      ];
    }
