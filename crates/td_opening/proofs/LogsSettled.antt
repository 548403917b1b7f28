-- What settling the logs makes of an image.
use Rattle.std.proofs.Common.{◌≡◌, ℕ, ◌+◌, ◌-◌, ◌<◌, ◌≤◌, Bool, true, false, cond, eqb, List, [], Option, Some, None, refl, sym, ap, subst, ◌∙◌, arith}
use Rattle.std.specs.Prelude.{is_some, IfSome}
use Rattle.std.specs.Option.{option_map, IsSomeAnd}
use mathlib.Core.Path.{fun_ext}
use Rattle.std.proofs.lemmas.Bool.{ne_eqb, eq-eqb, cond-true, cond-false, true≢false, eqb-true}
use Rattle.td_outside.specs.Image.{Log, Image, Along, Becomes, put}
use Rattle.td_outside.specs.Logs.{HasLog, with_log, after_sync, after_log_drop, after_failed_log_drop}
use Rattle.td_wal.specs.declared.item.LogItem.{LogItem}
use Rattle.td_wal.specs.Log.{IsLog}
use Rattle.td_wal.proofs.LogLaws.{one_log}
use Rattle.td_stands.specs.Stands.{HasItems}
use Rattle.td_opening.specs.declared.replaying.LogBytes.{LogBytes}
use Rattle.td_opening.specs.Opening.{HoldsLogs, HasNoItem, LogsAlike, Settling, IsEmptyLog, synced}

-- ---- the logs of an image

pub put_other : {A : Type 0} (n m : ℕ) (x : A) (map : ℕ → A) → eqb m n ≡ false → put n x map m ≡ map m
put_other n m x map other = cond-false (eqb m n) x (map m) other

put_own : {A : Type 0} (n : ℕ) (x : A) (map : ℕ → A) → put n x map n ≡ x
put_own n x map = cond-true (eqb n n) x (map n) (eq-eqb n n refl)

pub none_is : {A : Type 0} (o : Option A) → is_some o ≡ false → o ≡ None
none_is None e = refl
none_is (Some x) e = absurd (true≢false e)

-- the image without a log, as it is dropped
abbrev gone : ℕ → Image → Image
gone n image = record image { logs = put n None image.logs; doubt = record image.doubt { fresh = put n false image.doubt.fresh; gone = put n false image.doubt.gone } }

drop_cases : (n : ℕ) (image : Image) (P : Image → Type 0) → (is_some (image.logs n) ≡ true → P (gone n image)) → (is_some (image.logs n) ≡ false → P image) → P (after_log_drop n image)
drop_cases n image P there missing = by (is_some (image.logs n)) refl
  where
    by : (b : Bool) → is_some (image.logs n) ≡ b → P (cond b (gone n image) image)
    by true e = there e
    by false e = missing e

pub drop_other : (n m : ℕ) (image : Image) → eqb m n ≡ false → (after_log_drop n image).logs m ≡ image.logs m
drop_other n m image other = drop_cases n image (λ (x : Image). x.logs m ≡ image.logs m) (λ e. put_other n m None image.logs other) (λ e. refl)

pub drop_own : (n : ℕ) (image : Image) → (after_log_drop n image).logs n ≡ None
drop_own n image = drop_cases n image (λ (x : Image). x.logs n ≡ None) (λ e. put_own n None image.logs) (λ e. none_is (image.logs n) e)

pub drop_head : (n : ℕ) (image : Image) → (after_log_drop n image).head ≡ image.head
drop_head n image = drop_cases n image (λ (x : Image). x.head ≡ image.head) (λ e. refl) (λ e. refl)

pub drop_files : (n : ℕ) (image : Image) → (after_log_drop n image).files ≡ image.files
drop_files n image = drop_cases n image (λ (x : Image). x.files ≡ image.files) (λ e. refl) (λ e. refl)

-- ---- logs with the same items

alike_self : (o p : Option Log) → p ≡ o → LogsAlike o p
alike_self o p e first items = (λ h. subst (λ (x : Option Log). HasItems first items x) (sym e) h, λ h. subst (λ (x : Option Log). HasItems first items x) e h)

alike_synced : (o p : Option Log) → p ≡ option_map after_sync o → LogsAlike o p
alike_synced None p e first items = alike_self None p e first items
alike_synced (Some log) p e first items = (λ h. subst (λ (x : Option Log). HasItems first items x) (sym e) h, λ h. subst (λ (x : Option Log). HasItems first items x) e h)

empty_is : (first : ℕ) (items : List LogItem) (o : Option Log) → IsEmptyLog o → HasItems first items o → items ≡ []
empty_is first items None empty h = h
empty_is first items (Some log) empty h = one_log first log.bytes items [] h (record { gate = empty.0; rest = empty.1; closed = empty.2; bytes_are = empty.3; fit = refl })

pub is_empty : (first : ℕ) (items : List LogItem) (o : Option Log) → IsEmptyLog o → items ≡ [] → HasItems first items o
is_empty first items None empty e = e
is_empty first items (Some log) empty e = subst (λ (l : List LogItem). IsLog first log.bytes l) (sym e) (record { gate = empty.0; rest = empty.1; closed = empty.2; bytes_are = empty.3; fit = refl })

alike_empty : (o p : Option Log) → IsEmptyLog o → p ≡ None → LogsAlike o p
alike_empty o p empty e first items = (λ h. subst (λ (x : Option Log). HasItems first items x) (sym e) (empty_is first items o empty h), λ h. is_empty first items o empty (subst (λ (x : Option Log). HasItems first items x) e h))

alike_then : (a b c : Option Log) → LogsAlike a b → LogsAlike b c → LogsAlike a c
alike_then a b c p q first items = (λ h. (q first items).0 ((p first items).0 h), λ h. (p first items).1 ((q first items).1 h))

-- ---- settled

-- all but the logs and the doubts about them
abbrev with_logs_of : Image → Image → Image
with_logs_of old new = record old { logs = new.logs; doubt = record old.doubt { fresh = new.doubt.fresh; gone = new.doubt.gone } }

settles_self : (fl : ℕ) (image : Image) → Settling fl image image
settles_self fl image = record { rest = refl; first = alike_self (image.logs fl) _ refl; second = alike_self (image.logs (fl + 1)) _ refl; others = λ n far. refl }

settles_then : (fl : ℕ) (a b c : Image) → Settling fl a b → Settling fl b c → Settling fl a c
settles_then fl a b c p q = record {
  rest = q.rest ∙ ap (λ (x : Image). with_logs_of x c) p.rest;
  first = alike_then (a.logs fl) (b.logs fl) (c.logs fl) p.first q.first;
  second = alike_then (a.logs (fl + 1)) (b.logs (fl + 1)) (c.logs (fl + 1)) p.second q.second;
  others = λ n far. q.others n far ∙ p.others n far;
}

first_beyond : (fl m : ℕ) → fl + 1 < m → eqb m fl ≡ false
first_beyond fl m high = ne_eqb m fl (λ e. absurd (omega (arith, high, e)))

second_beyond : (fl m : ℕ) → fl + 1 < m → eqb m (fl + 1) ≡ false
second_beyond fl m high = ne_eqb m (fl + 1) (λ e. absurd (omega (arith, high, e)))

before_beyond : (fl m : ℕ) → fl + 1 < m → eqb m (fl - 1) ≡ false
before_beyond fl m high = ne_eqb m (fl - 1) (λ e. absurd (omega (arith, high, e)))

pub first_not_second : (fl : ℕ) → eqb fl (fl + 1) ≡ false
first_not_second fl = ne_eqb fl (fl + 1) (λ e. absurd (omega (arith, e)))

pub second_not_first : (fl : ℕ) → eqb (fl + 1) fl ≡ false
second_not_first fl = ne_eqb (fl + 1) fl (λ e. absurd (omega (arith, e)))

pub first_not_before : (fl : ℕ) → 1 ≤ fl → eqb fl (fl - 1) ≡ false
first_not_before fl one = ne_eqb fl (fl - 1) (λ e. absurd (omega (arith, e, one)))

pub second_not_before : (fl : ℕ) → eqb (fl + 1) (fl - 1) ≡ false
second_not_before fl = ne_eqb (fl + 1) (fl - 1) (λ e. absurd (omega (arith, e)))

sync_first : (fl : ℕ) (image : Image) → Settling fl image (with_log fl after_sync image)
sync_first fl image = record {
  rest = refl;
  first = alike_synced (image.logs fl) _ (put_own fl (option_map after_sync (image.logs fl)) image.logs);
  second = alike_self (image.logs (fl + 1)) _ (put_other fl (fl + 1) (option_map after_sync (image.logs fl)) image.logs (second_not_first fl));
  others = λ n far. put_other fl n (option_map after_sync (image.logs fl)) image.logs (first_beyond fl n far);
}

sync_second : (fl : ℕ) (image : Image) → Settling fl image (with_log (fl + 1) after_sync image)
sync_second fl image = record {
  rest = refl;
  first = alike_self (image.logs fl) _ (put_other (fl + 1) fl (option_map after_sync (image.logs (fl + 1))) image.logs (first_not_second fl));
  second = alike_synced (image.logs (fl + 1)) _ (put_own (fl + 1) (option_map after_sync (image.logs (fl + 1))) image.logs);
  others = λ n far. put_other (fl + 1) n (option_map after_sync (image.logs (fl + 1))) image.logs (second_beyond fl n far);
}

drop_rest : (n : ℕ) (image : Image) → after_log_drop n image ≡ with_logs_of image (after_log_drop n image)
drop_rest n image = drop_cases n image (λ (x : Image). x ≡ with_logs_of image x) (λ e. refl) (λ e. refl)

pub drop_before : (fl : ℕ) (image : Image) → 1 ≤ fl → Settling fl image (after_log_drop (fl - 1) image)
drop_before fl image one = record {
  rest = drop_rest (fl - 1) image;
  first = alike_self (image.logs fl) _ (drop_other (fl - 1) fl image (first_not_before fl one));
  second = alike_self (image.logs (fl + 1)) _ (drop_other (fl - 1) (fl + 1) image (second_not_before fl));
  others = λ n far. drop_other (fl - 1) n image (before_beyond fl n far);
}

drop_second : (fl : ℕ) (image : Image) → IsEmptyLog (image.logs (fl + 1)) → Settling fl image (after_log_drop (fl + 1) image)
drop_second fl image empty = record {
  rest = drop_rest (fl + 1) image;
  first = alike_self (image.logs fl) _ (drop_other (fl + 1) fl image (first_not_second fl));
  second = alike_empty (image.logs (fl + 1)) _ empty (drop_own (fl + 1) image);
  others = λ n far. drop_other (fl + 1) n image (second_beyond fl n far);
}

pub drop_fails : (fl n : ℕ) (image : Image) → Settling fl image (after_failed_log_drop n image)
drop_fails fl n image = record {
  rest = refl;
  first = alike_self (image.logs fl) _ refl;
  second = alike_self (image.logs (fl + 1)) _ refl;
  others = λ m far. refl;
}

-- ---- what is told

pub told_same : (fl : ℕ) (old new : Option Image) → new ≡ old → Along (Settling fl) old new
told_same fl old new e = subst (λ (x : Option Image). Along (Settling fl) old x) (sym e) (self old)
  where
    self : (o : Option Image) → Along (Settling fl) o o
    self None = tt
    self (Some image) = settles_self fl image

pub told_then : (fl : ℕ) (a b c : Option Image) → Along (Settling fl) a b → Along (Settling fl) b c → Along (Settling fl) a c
told_then fl None None None p q = tt
told_then fl None None (Some z) p q = absurd q
told_then fl None (Some y) c p q = absurd p
told_then fl (Some x) None c p q = absurd p
told_then fl (Some x) (Some y) None p q = absurd q
told_then fl (Some x) (Some y) (Some z) p q = settles_then fl x y z p q

pub told_by : (fl : ℕ) (f : Image → Image) (old new : Option Image) → ((image : Image) → Settling fl image (f image)) → Becomes f old new → Along (Settling fl) old new
told_by fl f None None step b = tt
told_by fl f None (Some y) step b = absurd b
told_by fl f (Some x) None step b = absurd b
told_by fl f (Some x) (Some y) step b = subst (λ (z : Image). Settling fl x z) (sym b) (step x)

pub told_fails : (fl n : ℕ) (old new : Option Image) → Becomes (after_failed_log_drop n) old new → Along (Settling fl) old new
told_fails fl n old new b = told_by fl (after_failed_log_drop n) old new (λ image. drop_fails fl n image) b

pub told_by_empty : (fl : ℕ) (old new : Option Image) → IfSome old (λ image. IsEmptyLog (image.logs (fl + 1))) → Becomes (after_log_drop (fl + 1)) old new → Along (Settling fl) old new
told_by_empty fl None None empty b = tt
told_by_empty fl None (Some y) empty b = absurd b
told_by_empty fl (Some x) None empty b = absurd b
told_by_empty fl (Some x) (Some y) empty b = subst (λ (z : Image). Settling fl x z) (sym b) (drop_second fl x empty)

pub becomes_then : (f g : Image → Image) (a b c : Option Image) → Becomes f a b → Becomes g b c → Becomes (λ image. g (f image)) a c
becomes_then f g None None None p q = tt
becomes_then f g None None (Some z) p q = absurd q
becomes_then f g None (Some y) c p q = absurd p
becomes_then f g (Some x) None c p q = absurd p
becomes_then f g (Some x) (Some y) None p q = absurd q
becomes_then f g (Some x) (Some y) (Some z) p q = q ∙ ap g p

-- after the log before the first one is dropped, the second is as it was
pub empty_still : (fl : ℕ) (old new : Option Image) → IfSome old (λ image. IsEmptyLog (image.logs (fl + 1))) → Becomes (after_log_drop (fl - 1)) old new → IfSome new (λ image. IsEmptyLog (image.logs (fl + 1)))
empty_still fl None None empty b = tt
empty_still fl None (Some y) empty b = absurd b
empty_still fl (Some x) None empty b = absurd b
empty_still fl (Some x) (Some y) empty b = subst (λ (o : Option Log). IsEmptyLog o) (sym (ap (λ (z : Image). z.logs (fl + 1)) b ∙ drop_other (fl - 1) (fl + 1) x (second_not_before fl))) empty

pub synced_settles : (fl : ℕ) (old new : Option Image) → Becomes (synced fl) old new → Along (Settling fl) old new
synced_settles fl old new b =
    told_by fl (synced fl) old new (λ image. settles_then fl image (with_log fl after_sync image) (synced fl image) (sync_first fl image) (sync_second fl (with_log fl after_sync image))) b

-- the first log alone is synced
pub first_synced : (fl : ℕ) (old new : Option Image) → Becomes (with_log fl after_sync) old new → Along (Settling fl) old new
first_synced fl old new b = told_by fl (with_log fl after_sync) old new (λ image. sync_first fl image) b

-- ---- what the calls ask for

-- the bytes of a log, where it is there
abbrev bytes_of : Option Log → Option (List ℕ)
bytes_of o = option_map (λ (log : Log). log.bytes) o

pub read_there : (bytes : Option (List ℕ)) (o : Option Log) → bytes ≡ bytes_of o → is_some bytes ≡ is_some o
read_there bytes None e = ap (λ (x : Option (List ℕ)). is_some x) e
read_there bytes (Some log) e = ap (λ (x : Option (List ℕ)). is_some x) e

pub told_first_there : (fl : ℕ) (logs : LogBytes) (told : Option Image) → IfSome told (HoldsLogs fl logs) → IfSome told (λ image. is_some (image.logs fl) ≡ is_some logs.first)
told_first_there fl logs None h = h
told_first_there fl logs (Some image) h = sym (read_there logs.first (image.logs fl) h.first)

pub told_second_there : (fl : ℕ) (logs : LogBytes) (old new : Option Image) → Becomes (with_log fl after_sync) old new → IfSome old (HoldsLogs fl logs) → IfSome new (λ image. is_some (image.logs (fl + 1)) ≡ is_some logs.second)
told_second_there fl logs None None b h = h
told_second_there fl logs None (Some y) b h = absurd b
told_second_there fl logs (Some x) None b h = absurd b
told_second_there fl logs (Some x) (Some y) b h =
    ap (λ (z : Image). is_some (z.logs (fl + 1))) b
    ∙ ap (λ (o : Option Log). is_some o) (put_other fl (fl + 1) (option_map after_sync (x.logs fl)) x.logs (second_not_first fl))
    ∙ sym (read_there logs.second (x.logs (fl + 1)) h.second)

there_has : (o : Option Log) → is_some o ≡ true → IsSomeAnd o (λ _. Unit {0})
there_has None e = absurd (true≢false (sym e))
there_has (Some log) e = tt

pub told_has_log : (n : ℕ) (there : Bool) (told : Option Image) → there ≡ true → IfSome told (λ image. is_some (image.logs n) ≡ there) → IfSome told (HasLog n (λ _. Unit {0}))
told_has_log n there None e h = h
told_has_log n there (Some image) e h = there_has (image.logs n) (h ∙ e)

-- a log that isn't there stays as it is
missing : (n : ℕ) (f : Log → Log) (image : Image) → image.logs n ≡ None → with_log n f image ≡ image
missing n f image none = ap (λ (logs : ℕ → Option Log). record image { logs = logs }) (fun_ext (λ m. by m (eqb m n) refl))
  where
    by : (m : ℕ) (b : Bool) → eqb m n ≡ b → cond b (option_map f (image.logs n)) (image.logs m) ≡ image.logs m
    by m true e = ap (λ (o : Option Log). option_map f o) none ∙ sym none ∙ ap (λ (k : ℕ). image.logs k) (sym (eqb-true m n e))
    by m false e = refl

pub told_missing : (n : ℕ) (there : Bool) (told : Option Image) → there ≡ false → IfSome told (λ image. is_some (image.logs n) ≡ there) → Becomes (with_log n after_sync) told told
told_missing n there None e h = tt
told_missing n there (Some image) e h = sym (missing n after_sync image (none_is (image.logs n) (h ∙ e)))

-- the second log has no item, once the logs are synced, where its bytes have none
empty_synced : (fl : ℕ) (image : Image) (bytes : Option (List ℕ)) → bytes ≡ bytes_of (image.logs (fl + 1)) → HasNoItem bytes → IsEmptyLog ((synced fl image).logs (fl + 1))
empty_synced fl image bytes read none =
    let second = image.logs (fl + 1) in
    let there : (synced fl image).logs (fl + 1) ≡ option_map after_sync second =
    put_own (fl + 1) (option_map after_sync ((with_log fl after_sync image).logs (fl + 1))) (with_log fl after_sync image).logs
    ∙ ap (λ (o : Option Log). option_map after_sync o) (put_other fl (fl + 1) (option_map after_sync (image.logs fl)) image.logs (second_not_first fl)) in
    subst (λ (o : Option Log). IsEmptyLog o) (sym there) (still second (subst (λ (b : Option (List ℕ)). HasNoItem b) read none))
  where
    still : (o : Option Log) → HasNoItem (bytes_of o) → IsEmptyLog (option_map after_sync o)
    still None h = h
    still (Some log) h = h

pub told_empty : (fl : ℕ) (logs : LogBytes) (old new : Option Image) → Becomes (synced fl) old new → IfSome old (HoldsLogs fl logs) → HasNoItem logs.second → IfSome new (λ image. IsEmptyLog (image.logs (fl + 1)))
told_empty fl logs None None b h none = tt
told_empty fl logs None (Some y) b h none = absurd b
told_empty fl logs (Some x) None b h none = absurd b
told_empty fl logs (Some x) (Some y) b h none = subst (λ (z : Image). IsEmptyLog (z.logs (fl + 1))) (sym b) (empty_synced fl x logs.second h.second none)
