-- Reading items one after the other, where the items to be read are known by an equation; and names among keys.
use Rattle.std.proofs.Common.{◌≡◌, ℕ, ◌-◌, ◌+◌, ◌<◌, Bool, List, [], ◌∷◌, ◌++◌, map, Ok, refl, sym, ap, subst, ◌∙◌, append_assoc}
use Rattle.std.specs.Prelude.{not, ◌||◌}
use Rattle.std.specs.List.{list_any}
use Rattle.std.specs.Str.{bytes_eq}
use Rattle.td_codec.specs.declared.fault.ReadFault.{ReadFault}
use Rattle.td_codec.specs.Fields.{Read, Fails}
use Rattle.td_codec.specs.Lists.{Items, items_read}
use Rattle.td_codec.proofs.Loop.{with_front, goes_on_at, ends_at}
use Rattle.td_manifest.specs.Names.{is_among}
use Rattle.td_manifest.specs.Files.{stt_behind, stt_items}

pub ends_with : {A : Type 0} (items here : Items A) (e : ReadFault) (front before : List A) (count i : ℕ) (bytes : List ℕ) (total : Read (List A)) → here ≡ items → before ≡ front → i < count → Fails e (here.read before bytes)
    → with_front front (items_read items front (count - i) bytes) ≡ total → Fails e total
ends_with {A} items here e front before count i bytes total same eb lt h so_far =
    ends_at items e front before count i bytes total eb lt (subst (λ (k : Items A). Fails e (k.read before bytes)) same h) so_far

pub goes_on_with : {A : Type 0} (items here next : Items A) (knows : List A → Type 0) (front before new : List A) (count i : ℕ) (bytes : List ℕ) (n : A) (after : List ℕ) (total : Read (List A)) → here ≡ items → next ≡ here → before ≡ front → new ≡ front ++ n ∷ []
    → i < count → here.read before bytes ≡ Ok (n, after) → knows (before ++ n ∷ []) → with_front front (items_read items front (count - i) bytes) ≡ total
    → ((with_front new (items_read items new (count - (i + 1)) after) ≡ total) × knows new) × (next ≡ items)
goes_on_with {A} items here next knows front before new count i bytes n after total same kept eb en lt read known so_far =
    (goes_on_at items knows front before new count i bytes n after total eb en lt (subst (λ (k : Items A). k.read before bytes ≡ Ok (n, after)) same read) known so_far, kept ∙ same)

-- ---- stt files

pub stt_read : (used here stt : List ℕ) (bytes : List ℕ) → here ≡ used ++ stt → (stt_behind here).read bytes ≡ (stt_items used).read stt bytes
unfolding stt_items
stt_read used here stt bytes is = ap (λ (l : List ℕ). (stt_behind l).read bytes) is

pub stt_ends : (used here : List ℕ) (e : ReadFault) (stt : List ℕ) (count i : ℕ) (bytes : List ℕ) (total : Read (List ℕ)) → here ≡ used ++ stt → i < count → Fails e ((stt_behind here).read bytes)
    → with_front stt (items_read (stt_items used) stt (count - i) bytes) ≡ total → Fails e total
stt_ends used here e stt count i bytes total is lt h so_far =
    ends_at (stt_items used) e stt stt count i bytes total refl lt (subst (λ (r : Read ℕ). Fails e r) (stt_read used here stt bytes is) h) so_far

pub stt_goes_on : (used here next stt new : List ℕ) (count i : ℕ) (bytes : List ℕ) (file : ℕ) (after : List ℕ) (total : Read (List ℕ)) → here ≡ used ++ stt → next ≡ here ++ file ∷ [] → new ≡ stt ++ file ∷ [] → i < count → (stt_behind here).read bytes ≡ Ok (file, after)
    → with_front stt (items_read (stt_items used) stt (count - i) bytes) ≡ total → (with_front new (items_read (stt_items used) new (count - (i + 1)) after) ≡ total) × (next ≡ used ++ new)
stt_goes_on used here next stt new count i bytes file after total is next_is new_is lt read so_far =
    let more : next ≡ used ++ (stt ++ file ∷ []) = next_is ∙ ap (λ (l : List ℕ). l ++ file ∷ []) is ∙ append_assoc used stt (file ∷ []) in
    let known : List ℕ → Type 0 = λ l. next ≡ used ++ l in
    goes_on_at (stt_items used) known stt stt new count i bytes file after total refl new_is lt (sym (stt_read used here stt bytes is) ∙ read) more so_far

-- ---- names

any_map : {X : Type 0} (f : X → List ℕ) (test : List ℕ → Bool) (xs : List X) → list_any (λ x. test (f x)) xs ≡ list_any test (map f xs)
any_map f test [] = refl
any_map f test (x ∷ xs) = ap (λ (b : Bool). test (f x) || b) (any_map f test xs)

pub added_new : {X : Type 0} (f : X → List ℕ) (name key : List ℕ) (added : Bool) (keys : List X) (names : List (List ℕ)) → key ≡ name → map f keys ≡ names → added ≡ not (list_any (λ k. bytes_eq key (f k)) keys) → added ≡ not (is_among name names)
added_new f name key added keys names key_is names_are e =
    e ∙ ap not (any_map f (bytes_eq key) keys) ∙ ap (λ (l : List ℕ). not (list_any (bytes_eq l) (map f keys))) key_is ∙ ap (λ (l : List (List ℕ)). not (is_among name l)) names_are
