-- The entries of an index rise.
use Rattle.std.proofs.Common.{◌≡◌, ℕ, zero, suc, ◌+◌, ◌-◌, ◌^◌, ◌<◌, ◌≤◌, ℤ, Bool, true, eqb, leb, cond, List, [], ◌∷◌, ◌++◌, length, Result, Ok, Err, refl, sym, ap, subst, ◌∙◌, arith}
use Rattle.std.specs.Prelude.{◌&&◌, int_le}
use Rattle.std.specs.List.{AllByRecursion}
use Rattle.std.specs.Int.{w16, w32, w64}
use Rattle.std.proofs.lemmas.Bool.{and_parts}
use Rattle.std.proofs.lemmas.Bool.Decides.{nat_tests}
use Rattle.td_limits.specs.declared.limits.TheConstants.{BLOCK_ROWS}
use Rattle.td_layer.specs.declared.values.Key.{Key}
use Rattle.td_cols.specs.Spelling.{AreBytes}
use Rattle.td_codec.specs.Fields.{◌>>=◌, Field, Read, number, number_read, checked, followed}
use Rattle.td_codec.specs.Lists.{each, items_read}
use Rattle.td_codec.proofs.FieldLaws.{bind_ok, passed, ok_is}
use Rattle.td_fileio.specs.Days.{is_in_day}
use Rattle.td_fileio.specs.Places.{placed, field_at}
use Rattle.td_datafile.specs.declared.format.Summary.{Summary}
use Rattle.td_datafile.specs.declared.format.Entry.{Entry}
use Rattle.td_datafile.specs.declared.entries.Behind.{Behind}
use Rattle.td_datafile.specs.declared.opening.Opening.{Opening}
use Rattle.td_datafile.specs.Blocks.{is_behind}
use Rattle.td_datafile.specs.Entries.{is_sum, is_bound, wide, summary_parts, summary_from, summary_in, comes_later, can_end, summaries_in, EntryParts, entry_parts, entry_from, entry_behind, behind, behind_entry, entry_items}
use Rattle.td_datafile.specs.Opening.{front, tail, end_place, all_of, index_in, checked_end, opening_of, opening_at}
use Rattle.td_datafile.specs.Scanned.{before_all, last_key}
use Rattle.td_datafile.proofs.EntryLaws.{behind_more}
use Rattle.td_datafile.specs.Known.{IsSummaryOf, Follows, AllFollow, AreEntries}
use Rattle.td_datafile.proofs.Spelling.{entries_count, greatest_field, least_field, sum_field, last_field, first_field, rows_field, table_field, size_field}

-- ---- what is known of values that were read

abbrev Passes : {A : Type 0} → Field A → (A → Type 0) → Type 0
Passes {A} field P = (bytes : List ℕ) (x : A × List ℕ) → field.read bytes ≡ Ok x → P x.0

checked_passes : {A : Type 0} (field : Field A) (test : A → Bool) → Passes (checked field test) (λ a. test a ≡ true)
checked_passes {A} field test bytes x e =
    let t = bind_ok (field.read bytes) (λ (y : A × List ℕ). cond (test y.0) (Ok y) (Err (length bytes))) x e in
    let p = passed (test t.0.0) (length bytes) (Ok t.0) x t.2 in
    subst (λ (y : A × List ℕ). test y.0 ≡ true) (ok_is t.0 x p.1) p.0

first_passes : {A B : Type 0} (first : Field A) (second : A → Field B) (P : A → Type 0) → Passes first P → Passes (followed first second) (λ x. P x.0)
first_passes {A} {B} first second P p bytes x e =
    let t = bind_ok (first.read bytes) (λ (a : A × List ℕ). (second a.0).read a.1 >>= λ (b : B × List ℕ). Ok ((a.0, b.0), b.1)) x e in
    let a = t.0 in
    let u = bind_ok ((second a.0).read a.1) (λ (b : B × List ℕ). Ok ((a.0, b.0), b.1)) x t.2 in
    subst (λ (y : (A × B) × List ℕ). P y.0.0) (ok_is ((a.0, u.0.0), u.0.1) x u.2) (p bytes a t.1)

second_passes : {A B : Type 0} (first : Field A) (second : A → Field B) (Q : A → B → Type 0) → ((a : A) → Passes (second a) (Q a)) → Passes (followed first second) (λ x. Q x.0 x.1)
second_passes {A} {B} first second Q q bytes x e =
    let t = bind_ok (first.read bytes) (λ (a : A × List ℕ). (second a.0).read a.1 >>= λ (b : B × List ℕ). Ok ((a.0, b.0), b.1)) x e in
    let a = t.0 in
    let u = bind_ok ((second a.0).read a.1) (λ (b : B × List ℕ). Ok ((a.0, b.0), b.1)) x t.2 in
    subst (λ (y : (A × B) × List ℕ). Q y.0.0 y.0.1) (ok_is ((a.0, u.0.0), u.0.1) x u.2) (q a.0 a.1 u.0 u.1)

-- ---- entries

abbrev Last : Type 0
Last = ℕ × List Summary

abbrev First : Type 0
First = ℕ × Last

abbrev Many : Type 0
Many = ℕ × First

abbrev Tabled : Type 0
Tabled = ℕ × Many

abbrev Sized : Type 0
Sized = ℕ × Tabled

table_known : (range index : ℕ) (b : Behind) → Passes (entry_parts range index b) (λ (p : EntryParts). leb b.table p.1.1.0 ≡ true)
table_known range index b =
    second_passes (checked (number w64) (λ at. eqb at b.place)) (λ at. size_field range index b at) (λ (_ : ℕ) (q : Sized). leb b.table q.1.0 ≡ true) (λ at.
    second_passes (checked (number w32) (λ size. leb (at + size) index)) (λ size. table_field range b) (λ (_ : ℕ) (q : Tabled). leb b.table q.0 ≡ true) (λ size.
    first_passes (checked (number w32) (λ table. leb b.table table)) (λ table. rows_field range b table) (λ (t : ℕ). leb b.table t ≡ true) (checked_passes (number w32) (λ table. leb b.table table))))

first_known : (range index : ℕ) (b : Behind) → Passes (entry_parts range index b) (λ (p : EntryParts). (is_in_day range p.1.1.1.1.0 && comes_later b p.1.1.0 p.1.1.1.1.0) ≡ true)
first_known range index b =
    second_passes (checked (number w64) (λ at. eqb at b.place)) (λ at. size_field range index b at) (λ (_ : ℕ) (q : Sized). (is_in_day range q.1.1.1.0 && comes_later b q.1.0 q.1.1.1.0) ≡ true) (λ at.
    second_passes (checked (number w32) (λ size. leb (at + size) index)) (λ size. table_field range b) (λ (_ : ℕ) (q : Tabled). (is_in_day range q.1.1.0 && comes_later b q.0 q.1.1.0) ≡ true) (λ size.
    second_passes (checked (number w32) (λ table. leb b.table table)) (λ table. rows_field range b table) (λ (t : ℕ) (q : Many). (is_in_day range q.1.0 && comes_later b t q.1.0) ≡ true) (λ table.
    second_passes (checked (number w32) (λ rows. leb 1 rows && leb rows BLOCK_ROWS)) (λ rows. first_field range b table rows) (λ (_ : ℕ) (q : First). (is_in_day range q.0 && comes_later b table q.0) ≡ true) (λ rows.
    first_passes (checked (number w64) (λ first. is_in_day range first && comes_later b table first)) (λ first. last_field range rows first) (λ (first : ℕ). (is_in_day range first && comes_later b table first) ≡ true) (checked_passes (number w64) (λ first. is_in_day range first && comes_later b table first))))))

last_known : (range index : ℕ) (b : Behind) → Passes (entry_parts range index b) (λ (p : EntryParts). (is_in_day range p.1.1.1.1.1.0 && can_end p.1.1.1.0 p.1.1.1.1.0 p.1.1.1.1.1.0) ≡ true)
last_known range index b =
    second_passes (checked (number w64) (λ at. eqb at b.place)) (λ at. size_field range index b at) (λ (_ : ℕ) (q : Sized). (is_in_day range q.1.1.1.1.0 && can_end q.1.1.0 q.1.1.1.0 q.1.1.1.1.0) ≡ true) (λ at.
    second_passes (checked (number w32) (λ size. leb (at + size) index)) (λ size. table_field range b) (λ (_ : ℕ) (q : Tabled). (is_in_day range q.1.1.1.0 && can_end q.1.0 q.1.1.0 q.1.1.1.0) ≡ true) (λ size.
    second_passes (checked (number w32) (λ table. leb b.table table)) (λ table. rows_field range b table) (λ (_ : ℕ) (q : Many). (is_in_day range q.1.1.0 && can_end q.0 q.1.0 q.1.1.0) ≡ true) (λ table.
    second_passes (checked (number w32) (λ rows. leb 1 rows && leb rows BLOCK_ROWS)) (λ rows. first_field range b table rows) (λ (rows : ℕ) (q : First). (is_in_day range q.1.0 && can_end rows q.0 q.1.0) ≡ true) (λ rows.
    second_passes (checked (number w64) (λ first. is_in_day range first && comes_later b table first)) (λ first. last_field range rows first) (λ (first : ℕ) (q : Last). (is_in_day range q.0 && can_end rows first q.0) ≡ true) (λ first.
    first_passes (checked (number w64) (λ last. is_in_day range last && can_end rows first last)) (λ last. summaries_in rows) (λ (last : ℕ). (is_in_day range last && can_end rows first last) ≡ true) (checked_passes (number w64) (λ last. is_in_day range last && can_end rows first last)))))))

rows_known : (range index : ℕ) (b : Behind) → Passes (entry_parts range index b) (λ (p : EntryParts). (leb 1 p.1.1.1.0 && leb p.1.1.1.0 BLOCK_ROWS) ≡ true)
rows_known range index b =
    second_passes (checked (number w64) (λ at. eqb at b.place)) (λ at. size_field range index b at) (λ (_ : ℕ) (q : Sized). (leb 1 q.1.1.0 && leb q.1.1.0 BLOCK_ROWS) ≡ true) (λ at.
    second_passes (checked (number w32) (λ size. leb (at + size) index)) (λ size. table_field range b) (λ (_ : ℕ) (q : Tabled). (leb 1 q.1.0 && leb q.1.0 BLOCK_ROWS) ≡ true) (λ size.
    second_passes (checked (number w32) (λ table. leb b.table table)) (λ table. rows_field range b table) (λ (_ : ℕ) (q : Many). (leb 1 q.0 && leb q.0 BLOCK_ROWS) ≡ true) (λ table.
    first_passes (checked (number w32) (λ rows. leb 1 rows && leb rows BLOCK_ROWS)) (λ rows. first_field range b table rows) (λ (rows : ℕ). (leb 1 rows && leb rows BLOCK_ROWS) ≡ true) (checked_passes (number w32) (λ rows. leb 1 rows && leb rows BLOCK_ROWS)))))

-- ---- summaries

count_known : (rows : ℕ) → Passes (summary_parts rows) (λ p. leb p.0 rows ≡ true)
count_known rows = first_passes (checked (number w32) (λ count. leb count rows)) (λ count. sum_field count) (λ (count : ℕ). leb count rows ≡ true) (checked_passes (number w32) (λ count. leb count rows))

sum_known : (rows : ℕ) → Passes (summary_parts rows) (λ p. is_sum p.0 p.1.0 ≡ true)
sum_known rows =
    second_passes (checked (number w32) (λ count. leb count rows)) (λ count. sum_field count) (λ (count : ℕ) (q : ℤ × (ℤ × ℤ)). is_sum count q.0 ≡ true) (λ count.
    first_passes (checked wide (is_sum count)) (λ sum. least_field count) (λ (sum : ℤ). is_sum count sum ≡ true) (checked_passes wide (is_sum count)))

least_known : (rows : ℕ) → Passes (summary_parts rows) (λ p. is_bound p.0 p.1.1.0 ≡ true)
least_known rows =
    second_passes (checked (number w32) (λ count. leb count rows)) (λ count. sum_field count) (λ (count : ℕ) (q : ℤ × (ℤ × ℤ)). is_bound count q.1.0 ≡ true) (λ count.
    second_passes (checked wide (is_sum count)) (λ sum. least_field count) (λ (_ : ℤ) (q : ℤ × ℤ). is_bound count q.0 ≡ true) (λ sum.
    first_passes (checked wide (is_bound count)) (λ least. greatest_field count least) (λ (least : ℤ). is_bound count least ≡ true) (checked_passes wide (is_bound count))))

greatest_known : (rows : ℕ) → Passes (summary_parts rows) (λ p. (is_bound p.0 p.1.1.1 && int_le p.1.1.0 p.1.1.1) ≡ true)
greatest_known rows =
    second_passes (checked (number w32) (λ count. leb count rows)) (λ count. sum_field count) (λ (count : ℕ) (q : ℤ × (ℤ × ℤ)). (is_bound count q.1.1 && int_le q.1.0 q.1.1) ≡ true) (λ count.
    second_passes (checked wide (is_sum count)) (λ sum. least_field count) (λ (_ : ℤ) (q : ℤ × ℤ). (is_bound count q.1 && int_le q.0 q.1) ≡ true) (λ sum.
    second_passes (checked wide (is_bound count)) (λ least. greatest_field count least) (λ (least : ℤ) (n : ℤ). (is_bound count n && int_le least n) ≡ true) (λ least. checked_passes wide (λ n. is_bound count n && int_le least n))))

summary_known : (rows : ℕ) → Passes (summary_in rows) (IsSummaryOf rows)
unfolding summary_in
summary_known rows bytes x e =
    let t = bind_ok ((summary_parts rows).read bytes) (λ (y : (ℕ × (ℤ × (ℤ × ℤ))) × List ℕ). Ok (summary_from y.0, y.1)) x e in
    let p = t.0.0 in
    let count : p.0 ≤ rows = grind (arith, nat_tests, count_known rows bytes t.0 t.1) in
    let greatest = and_parts (is_bound p.0 p.1.1.1) (int_le p.1.1.0 p.1.1.1) (greatest_known rows bytes t.0 t.1) in
    subst (λ (y : Summary × List ℕ). IsSummaryOf rows y.0) (ok_is (summary_from p, t.0.1) x t.2) (record { count = count; sum = sum_known rows bytes t.0 t.1; least = least_known rows bytes t.0 t.1; greatest = greatest.0 })

many_known : (rows n : ℕ) (before : List Summary) (bytes : List ℕ) (x : List Summary × List ℕ) → items_read (each (summary_in rows)) before n bytes ≡ Ok x → AllByRecursion (IsSummaryOf rows) x.0
unfolding items_read
many_known rows zero before bytes x e = subst (λ (y : List Summary × List ℕ). AllByRecursion (IsSummaryOf rows) y.0) (ok_is ([], bytes) x e) tt
many_known rows (suc n) before bytes x e =
    let items = each (summary_in rows) in
    let t = bind_ok (items.read before bytes) (λ (first : Summary × List ℕ). items_read items (before ++ first.0 ∷ []) n first.1 >>= λ (others : List Summary × List ℕ). Ok (first.0 ∷ others.0, others.1)) x e in
    let u = bind_ok (items_read items (before ++ t.0.0 ∷ []) n t.0.1) (λ (others : List Summary × List ℕ). Ok (t.0.0 ∷ others.0, others.1)) x t.2 in
    subst (λ (y : List Summary × List ℕ). AllByRecursion (IsSummaryOf rows) y.0) (ok_is (t.0.0 ∷ u.0.0, u.0.1) x u.2) (summary_known rows bytes t.0 t.1, many_known rows n (before ++ t.0.0 ∷ []) t.0.1 u.0 u.1)

summaries_known : (rows : ℕ) → Passes (summaries_in rows) (AllByRecursion (IsSummaryOf rows))
summaries_known rows bytes x e =
    let t = bind_ok (number_read w16 bytes) (λ (n : ℕ × List ℕ). items_read (each (summary_in rows)) [] n.0 n.1) x e in
    many_known rows t.0.0 [] t.0.1 x t.2

sums_known : (range index : ℕ) (b : Behind) → Passes (entry_parts range index b) (λ (p : EntryParts). AllByRecursion (IsSummaryOf p.1.1.1.0) p.1.1.1.1.1.1)
sums_known range index b =
    second_passes (checked (number w64) (λ at. eqb at b.place)) (λ at. size_field range index b at) (λ (_ : ℕ) (q : Sized). AllByRecursion (IsSummaryOf q.1.1.0) q.1.1.1.1.1) (λ at.
    second_passes (checked (number w32) (λ size. leb (at + size) index)) (λ size. table_field range b) (λ (_ : ℕ) (q : Tabled). AllByRecursion (IsSummaryOf q.1.0) q.1.1.1.1) (λ size.
    second_passes (checked (number w32) (λ table. leb b.table table)) (λ table. rows_field range b table) (λ (_ : ℕ) (q : Many). AllByRecursion (IsSummaryOf q.0) q.1.1.1) (λ table.
    second_passes (checked (number w32) (λ rows. leb 1 rows && leb rows BLOCK_ROWS)) (λ rows. first_field range b table rows) (λ (rows : ℕ) (q : First). AllByRecursion (IsSummaryOf rows) q.1.1) (λ rows.
    second_passes (checked (number w64) (λ first. is_in_day range first && comes_later b table first)) (λ first. last_field range rows first) (λ (_ : ℕ) (q : Last). AllByRecursion (IsSummaryOf rows) q.1) (λ first.
    second_passes (checked (number w64) (λ last. is_in_day range last && can_end rows first last)) (λ last. summaries_in rows) (λ (_ : ℕ) (q : List Summary). AllByRecursion (IsSummaryOf rows) q) (λ last. summaries_known rows))))))

-- ---- all of an entry

entry_follows : (range index : ℕ) (b : Behind) → Passes (entry_behind range index b) (Follows b)
unfolding entry_behind
entry_follows range index b bytes x e =
    let t = bind_ok ((entry_parts range index b).read bytes) (λ (y : EntryParts × List ℕ). Ok (entry_from y.0, y.1)) x e in
    let p = t.0.0 in
    let first = and_parts (is_in_day range p.1.1.1.1.0) (comes_later b p.1.1.0 p.1.1.1.1.0) (first_known range index b bytes t.0 t.1) in
    let last = and_parts (is_in_day range p.1.1.1.1.1.0) (can_end p.1.1.1.0 p.1.1.1.1.0 p.1.1.1.1.1.0) (last_known range index b bytes t.0 t.1) in
    let rows = and_parts (leb 1 p.1.1.1.0) (leb p.1.1.1.0 BLOCK_ROWS) (rows_known range index b bytes t.0 t.1) in
    let some : 1 ≤ p.1.1.1.0 = grind (arith, nat_tests, rows.0) in
    let few : p.1.1.1.0 ≤ BLOCK_ROWS = grind (arith, nat_tests, rows.1) in
    subst (λ (y : Entry × List ℕ). Follows b y.0) (ok_is (entry_from p, t.0.1) x t.2) (record { table = table_known range index b bytes t.0 t.1; first = first.1; last = last.1; some = some; few = few; sums = sums_known range index b bytes t.0 t.1 })

entries_follow : (range index : ℕ) (n : ℕ) (before : List Entry) (bytes : List ℕ) (x : List Entry × List ℕ) → items_read (entry_items range index) before n bytes ≡ Ok x → AllFollow (behind before) x.0
unfolding items_read entry_behind
entries_follow range index zero before bytes x e = subst (λ (y : List Entry × List ℕ). AllFollow (behind before) y.0) (ok_is ([], bytes) x e) tt
entries_follow range index (suc n) before bytes x e =
    let items = entry_items range index in
    let t = bind_ok (items.read before bytes) (λ (first : Entry × List ℕ). items_read items (before ++ first.0 ∷ []) n first.1 >>= λ (others : List Entry × List ℕ). Ok (first.0 ∷ others.0, others.1)) x e in
    let u = bind_ok (items_read items (before ++ t.0.0 ∷ []) n t.0.1) (λ (others : List Entry × List ℕ). Ok (t.0.0 ∷ others.0, others.1)) x t.2 in
    let one = entry_follows range index (behind before) bytes t.0 t.1 in
    let others = subst (λ (b : Behind). AllFollow b u.0.0) (behind_more before t.0.0) (entries_follow range index n (before ++ t.0.0 ∷ []) t.0.1 u.0 u.1) in
    subst (λ (y : List Entry × List ℕ). AllFollow (behind before) y.0) (ok_is (t.0.0 ∷ u.0.0, u.0.1) x u.2) (one, others)

-- ---- keys

-- what comes behind blocks comes behind their last key
abbrev pub Bounds : Key → Behind → Type 0
Bounds last b = (table first : ℕ) → leb b.table table ≡ true → comes_later b table first ≡ true → is_behind last (record { table = table; ts = first }) ≡ true

pub bounds_first : Bounds before_all (behind [])
bounds_first table first p q = grind (arith, nat_tests)

pub bounds_next : (e : Entry) → Bounds (last_key e) (behind_entry e)
bounds_next e table first p q = grind (arith, nat_tests)

pub ends_behind : (last : Key) (b : Behind) (e : Entry) → Bounds last b → Follows b e → is_behind last (last_key e) ≡ true
ends_behind last b e bounds f = later last e.table e.first e.last e.rows (bounds e.table e.first f.table f.first) f.last where
  later : (last : Key) (t first end rows : ℕ) → is_behind last (record { table = t; ts = first }) ≡ true → can_end rows first end ≡ true → is_behind last (record { table = t; ts = end }) ≡ true
  later last t first end rows p q = grind (arith, nat_tests)

-- ---- the index

pub entries_known : (range place blocks : ℕ) (bytes rest : List ℕ) (es : List Entry) → AreBytes bytes → blocks < 2 ^ 32 → items_read (entry_items range place) [] blocks bytes ≡ Ok (es, rest) → AreEntries es
entries_known range place blocks bytes rest es are small e =
    let long : length es ≡ blocks = entries_count range place blocks bytes es rest are e in
    record { follow = entries_follow range place blocks [] bytes (es, rest) e; few = subst (λ (n : ℕ). n < 2 ^ 32) (sym long) small }

-- ---- the opening

placed_ok : {A : Type 0} (at size long : ℕ) (r : Read A) (y : A × ℕ) → placed at size long r ≡ Ok y → (x : A × List ℕ) × (r ≡ Ok x) × (x.0 ≡ y.0)
placed_ok {A} at size long (Ok x) y e = (x, refl, ap (λ (z : A × ℕ). z.0) (ok_is (x.0, at + size) y e))
placed_ok {A} at size long (Err left) y e = absurd (wrong e) where
  wrong : placed {A = A} at size long (Err left) ≡ Ok y → ⊥
  wrong q = cc

index_follows : (range place count : ℕ) (bytes : List ℕ) (x : List Entry × List ℕ) → (index_in range place count).read bytes ≡ Ok x → AllFollow (behind []) x.0
unfolding index_in
index_follows range place count bytes x e =
    let t = bind_ok (items_read (entry_items range place) [] count bytes) all_of x e in
    let p = passed (Rattle.std.proofs.Common.eqb (length t.0.1) 0) (length t.0.1) (Ok t.0) x t.2 in
    entries_follow range place count [] bytes x (t.1 ∙ p.1)

abbrev opened : Opening → Result Opening ℕ
opened o = Ok o

sized_follows : (size : ℕ) (all : List ℕ) (o : Opening) → opening_of size all ≡ Ok o → AllFollow (behind []) o.entries
unfolding opening_of
sized_follows size all o e =
    let t = bind_ok (field_at front 12 0 all) (λ (f : (ℕ × (ℕ × ℕ)) × ℕ). field_at (tail size) 12 (end_place size) all >>= λ (t : (ℕ × ℕ) × ℕ). field_at (index_in f.0.1.0 t.0.0 f.0.1.1) (end_place size - t.0.0) t.0.0 all >>= λ (es : List Entry × ℕ). checked_end size f.0.1.0 t.0.0 es.0) o e in
    let f = t.0 in
    let u = bind_ok (field_at (tail size) 12 (end_place size) all) (λ (t : (ℕ × ℕ) × ℕ). field_at (index_in f.0.1.0 t.0.0 f.0.1.1) (end_place size - t.0.0) t.0.0 all >>= λ (es : List Entry × ℕ). checked_end size f.0.1.0 t.0.0 es.0) o t.2 in
    let at = u.0.0.0 in
    let index = index_in f.0.1.0 at f.0.1.1 in
    let part = Rattle.std.proofs.Common.take (end_place size - at) (Rattle.std.proofs.Common.drop at all) in
    let v = bind_ok (field_at index (end_place size - at) at all) (λ (es : List Entry × ℕ). checked_end size f.0.1.0 at es.0) o u.2 in
    let w = placed_ok at (end_place size - at) (length part) (index.read part) v.0 v.1 in
    let follows = subst (λ (l : List Entry). AllFollow (behind []) l) w.2 (index_follows f.0.1.0 at f.0.1.1 part w.0 w.1) in
    let p = passed (Rattle.std.proofs.Common.eqb (behind v.0.0).place at) (end_place size) (opened (record { range = f.0.1.0; index = at; entries = v.0.0 })) o v.2 in
    subst (λ (x : Opening). AllFollow (behind []) x.entries) (ok_is (record { range = f.0.1.0; index = at; entries = v.0.0 }) o p.1) follows

pub opening_follows : (all : List ℕ) (o : Opening) → opening_at all ≡ Ok o → AllFollow (behind []) o.entries
opening_follows all o e = sized_follows (length all) all o e
