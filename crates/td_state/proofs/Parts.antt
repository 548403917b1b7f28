-- The part of an entry, and what is noted beside it.
use Rattle.std.proofs.Common.{◌≡◌, ℕ, ◌+◌, ◌<◌, length, refl, sym, ap, ◌∙◌, subst}
use Rattle.td_model.specs.declared.history.What.{What}
use Rattle.td_model.specs.declared.history.What.TheVariants as what
use Rattle.td_model.specs.Catalog.{Catalog}
use Rattle.td_verdict.specs.Plans.{subtables_of}
use Rattle.td_state.specs.declared.contents.Part.{Part}
use Rattle.td_state.specs.Contents.{Kept, Room, ContentsHeld, kept_after, placed, noted, part_of, HasPlace, HasLatestRoom, HasTagRoom}
use Rattle.td_state.proofs.Subtables.{next_absent}

-- the part put in its place, and then the rest noted, are the whole
by_part : (w : What) (v : ℕ) (c : Catalog) (k : Kept) → noted w v c (placed (part_of w c) k) ≡ kept_after w v c k
by_part (what.MakeStable name schema) v c k = refl
by_part (what.MakeTable name columns) v c k = refl
by_part (what.MakeSub name stable tags) v c k = refl
by_part (what.Put puts) v c k = refl
by_part (what.Cut table lo hi) v c k = refl
by_part (what.Edge edge) v c k = refl
by_part (what.MakeStream def) v c k = refl
by_part (what.DropStream n) v c k = refl
by_part (what.Step stream upto moment) v c k = refl
by_part what.Halt v c k = refl

pub both : (w : What) (v : ℕ) (c : Catalog) (k l n : Kept) (p : Part) → p ≡ part_of w c → l ≡ placed p k → n ≡ noted w v c l → n ≡ kept_after w v c k
both w v c k l n p is put note = note ∙ ap (noted w v c) put ∙ ap (λ x. noted w v c (placed x k)) is ∙ by_part w v c k

has_place_by : (w : What) (c : Catalog) (h : ContentsHeld) → h.kept.subtables ≡ subtables_of c → HasTagRoom w h.room → HasPlace (part_of w c) h
has_place_by (what.MakeStable name schema) c h e room = tt
has_place_by (what.MakeTable name columns) c h e room = tt
has_place_by (what.MakeSub name stable tags) c h e room = (next_absent c h.kept.subtables (length c.tables + 1) e refl, room)
has_place_by (what.Put puts) c h e room = tt
has_place_by (what.Cut table lo hi) c h e room = tt
has_place_by (what.Edge edge) c h e room = tt
has_place_by (what.MakeStream def) c h e room = tt
has_place_by (what.DropStream n) c h e room = tt
has_place_by (what.Step stream upto moment) c h e room = tt
has_place_by what.Halt c h e room = tt

pub has_place : (w : What) (c : Catalog) (h : ContentsHeld) (p : Part) → h.kept.subtables ≡ subtables_of c → p ≡ part_of w c → HasTagRoom w h.room → HasPlace p h
has_place w c h p e is room = subst (λ x. HasPlace x h) (sym is) (has_place_by w c h e room)

pub still_room : (w : What) (r s : Room) → s.stables ≡ r.stables → s.tables ≡ r.tables → HasLatestRoom w r → HasLatestRoom w s
still_room (what.MakeStable name schema) r s stables tables room = subst (λ n. 0 < n) (sym stables) room
still_room (what.MakeTable name columns) r s stables tables room = subst (λ n. 0 < n) (sym tables) room
still_room (what.MakeSub name stable tags) r s stables tables room = subst (λ n. 0 < n) (sym tables) room
still_room (what.Put puts) r s stables tables room = tt
still_room (what.Cut table lo hi) r s stables tables room = tt
still_room (what.Edge edge) r s stables tables room = tt
still_room (what.MakeStream def) r s stables tables room = tt
still_room (what.DropStream n) r s stables tables room = tt
still_room (what.Step stream upto moment) r s stables tables room = tt
still_room what.Halt r s stables tables room = tt
