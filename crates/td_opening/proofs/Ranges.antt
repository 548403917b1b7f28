-- Items that fit a log are in range.
use Rattle.std.proofs.Common.{◌≡◌, ℕ, zero, suc, ◌+◌, ◌<◌, ◌≤◌, true, eqb, leb, List, [], ◌∷◌, length, get_or, take, Option, Some, None, refl, ap, subst, arith}
use Rattle.std.specs.Prelude.{◌&&◌}
use Rattle.std.specs.Int.{w32, w64}
use Rattle.std.proofs.lemmas.Bool.{and_parts, and_from, eqb-true, leb-true}
use Rattle.td_limits.specs.declared.limits.TheConstants.{LAST_VERSION, LAST_TIMESTAMP}
use Rattle.td_codec.specs.Fields.{number}
use Rattle.td_wal.specs.declared.item.LogItem.{LogItem}
use Rattle.td_wal.specs.Items.{body, body_bytes, version_field, moment_field, item_head, head_of, item}
use Rattle.td_wal.specs.Log.{items_fit, last_moment}
use Rattle.td_opening.specs.Opening.{EndsAt}
use Rattle.td_opening.proofs.Sums.{early_late, none_at_most, less_next, last_count, last_none}

-- an item that fits has its version, and is in range
pub record InRange (version : ℕ) (i : LogItem) : Type 0 where
  pub version_is : i.version ≡ version
  pub last_version : i.version ≤ LAST_VERSION
  pub last_moment : i.moment ≤ LAST_TIMESTAMP

pub in_range : (version least : ℕ) (i : LogItem) → (item version least).fits i ≡ true → InRange version i
unfolding item item_head
in_range version least i fits =
    let f = and_parts ((item_head version least).fits (head_of i)) ((body i.version i.moment (length (body_bytes i.body))).fits i.body) fits in
    let size = and_parts ((number w32).fits (length (body_bytes i.body))) _ f.0 in
    let own = and_parts ((version_field version).fits i.version) _ size.1 in
    let test = and_parts ((number w64).fits i.version) (eqb i.version version && leb i.version LAST_VERSION) own.0 in
    let versions = and_parts (eqb i.version version) (leb i.version LAST_VERSION) test.1 in
    let moment = and_parts ((moment_field least).fits i.moment) _ own.1 in
    let parts = and_parts ((number w64).fits i.moment) (leb least i.moment && leb i.moment LAST_TIMESTAMP) moment.0 in
    let bounds = and_parts (leb least i.moment) (leb i.moment LAST_TIMESTAMP) parts.1 in
    record { version_is = eqb-true _ _ versions.0; last_version = leb-true _ _ versions.1; last_moment = leb-true _ _ bounds.1 }

pub items_in_range : (first least : ℕ) (items : List LogItem) (n : ℕ) (d : LogItem) → n < length items → items_fit first least items ≡ true → InRange (first + n) (get_or items n d)
items_in_range first least [] n d within fit = absurd (omega (arith, within))
items_in_range first least (i ∷ is) zero d within fit =
    let f = and_parts ((item first least).fits i) (items_fit (first + 1) i.moment is) fit in
    let e : first ≡ first + 0 = omega arith in
    subst (λ (v : ℕ). InRange v i) e (in_range first least i f.0)
items_in_range first least (i ∷ is) (suc n) d within fit =
    let f = and_parts ((item first least).fits i) (items_fit (first + 1) i.moment is) fit in
    let e : (first + 1) + n ≡ first + suc n = omega arith in
    subst (λ (v : ℕ). InRange v (get_or is n d)) e (items_in_range (first + 1) i.moment is n d (omega (arith, within)) f.1)

-- the last moment is in range
pub moments_in_range : (first least own : ℕ) (items : List LogItem) → items_fit first least items ≡ true → own ≤ LAST_TIMESTAMP → last_moment own items ≤ LAST_TIMESTAMP
moments_in_range first least own [] fit le = le
moments_in_range first least own (i ∷ is) fit le =
    let f = and_parts ((item first least).fits i) (items_fit (first + 1) i.moment is) fit in
    moments_in_range (first + 1) i.moment i.moment is f.1 (in_range first least i f.0).last_moment

-- the first of items that fit do
pub front_fits : (n first least : ℕ) (items : List LogItem) → items_fit first least items ≡ true → items_fit first least (take n items) ≡ true
front_fits zero first least items fit = refl
front_fits (suc n) first least [] fit = refl
front_fits (suc n) first least (i ∷ is) fit =
    let parts = and_parts ((item first least).fits i) (items_fit (first + 1) i.moment is) fit in
    and_from ((item first least).fits i) (items_fit (first + 1) i.moment (take n is)) parts.0 (front_fits n (first + 1) i.moment is parts.1)

pub ends_fit : (first : ℕ) (bytes : Option (List ℕ)) (items : List LogItem) (gate : ℕ) → EndsAt first bytes items gate → items_fit first 0 items ≡ true
ends_fit first None items gate e = ap (λ (l : List LogItem). items_fit first 0 l) e.0
ends_fit first (Some bytes) items gate log = log.log.fit

count_in_range : (first n : ℕ) (items : List LogItem) → items_fit first 0 items ≡ true → n < length items → first + n ≤ LAST_VERSION
count_in_range first n [] fit some = absurd (early_late n 0 some (none_at_most n))
count_in_range first n (i ∷ is) fit some =
    let r = items_in_range first 0 (i ∷ is) n i some fit in
    subst (λ (v : ℕ). v ≤ LAST_VERSION) r.version_is r.last_version

pub versions_in_range : (a b : ℕ) (items : List LogItem) → a ≤ LAST_VERSION → items_fit (a + 1) 0 items ≡ true → b ≡ a + length items → b ≤ LAST_VERSION
versions_in_range a b [] le fit e = last_none a b le e
versions_in_range a b (i ∷ is) le fit e = last_count a b (length is) e (count_in_range (a + 1) (length is) (i ∷ is) fit (less_next (length is)))
