-- What bytes are a log, and that they are one log at most.
use Rattle.std.proofs.Common.{◌≡◌, ◌⊎◌, inl, inr, ℕ, suc, ◌+◌, ◌-◌, ◌<◌, true, List, [], ◌∷◌, ◌++◌, length, get_or, Result, Ok, Err, refl, sym, ap, subst, ◌∙◌, append_assoc, arith}
use Rattle.std.specs.Prelude.{◌≢◌}
use Rattle.std.proofs.lemmas.Bool.{and_parts, and_from}
use Rattle.std.proofs.lemmas.List.{append-nil, length_push, length-append}
use Rattle.td_cols.specs.Spelling.{AreBytes}
use Rattle.td_codec.proofs.FieldLaws.{ok_is}
use Rattle.td_wal.specs.declared.item.LogItem.{LogItem}
use Rattle.td_wal.specs.declared.reading.LogFault.{LogFault}
use Rattle.td_wal.specs.declared.reading.LogFault.TheVariants as faults
use Rattle.td_wal.specs.Items.{item, item_bytes}
use Rattle.td_wal.specs.Log.{opened, items_fit, IsLog, LogAt, last_moment, Breaks, BreaksAt, Answers, AnswersAt}
use Rattle.td_wal.proofs.ItemLaws.{item_takes, item_again}

-- ---- one more item

pub opened-push : (items : List LogItem) (i : LogItem) (rest : List ℕ) → opened (items ++ i ∷ []) ++ rest ≡ opened items ++ (1 ∷ (item_bytes i ++ rest))
opened-push [] i rest = ap (λ (l : List ℕ). 1 ∷ (l ++ rest)) (append-nil (item_bytes i))
opened-push (j ∷ js) i rest =
    ap (λ (l : List ℕ). 1 ∷ l)
    (append_assoc (item_bytes j) (opened (js ++ i ∷ [])) rest
    ∙ ap (λ (l : List ℕ). item_bytes j ++ l) (opened-push js i rest)
    ∙ sym (append_assoc (item_bytes j) (opened js) (1 ∷ (item_bytes i ++ rest))))

pub last_moment-push : (least : ℕ) (items : List LogItem) (i : LogItem) → last_moment least (items ++ i ∷ []) ≡ i.moment
last_moment-push least [] i = refl
last_moment-push least (j ∷ js) i = last_moment-push j.moment js i

pub items_fit-push : (version least : ℕ) (items : List LogItem) (i : LogItem) → items_fit version least items ≡ true → (item (version + length items) (last_moment least items)).fits i ≡ true → items_fit version least (items ++ i ∷ []) ≡ true
items_fit-push version least [] i all fits =
    let e : version + 0 ≡ version = omega arith in
    and_from _ _ (subst (λ (n : ℕ). (item n least).fits i ≡ true) e fits) refl
items_fit-push version least (j ∷ js) i all fits =
    let f = and_parts ((item version least).fits j) (items_fit (version + 1) j.moment js) all in
    let e : version + suc (length js) ≡ (version + 1) + length js = omega arith in
    and_from _ _ f.0 (items_fit-push (version + 1) j.moment js i f.1 (subst (λ (n : ℕ). (item n (last_moment j.moment js)).fits i ≡ true) e fits))

pub items_fit-front : (version least : ℕ) (items : List LogItem) (i : LogItem) → items_fit version least (items ++ i ∷ []) ≡ true → items_fit version least items ≡ true
items_fit-front version least [] i all = refl
items_fit-front version least (j ∷ js) i all =
    let f = and_parts ((item version least).fits j) (items_fit (version + 1) j.moment (js ++ i ∷ [])) all in
    and_from _ _ f.0 (items_fit-front (version + 1) j.moment js i f.1)

-- ---- reading

-- the loop of the reader has read these items, and this is left
pub record ReadSoFar (first : ℕ) (bytes : List ℕ) (read : List LogItem) (rest : List ℕ) (version least : ℕ) : Type 0 where
  pub bytes_are : bytes ≡ opened read ++ rest
  pub fit : items_fit first 0 read ≡ true
  pub version_is : version ≡ first + length read
  pub least_is : least ≡ last_moment 0 read
  pub rest_are : AreBytes rest

pub reads_none : (first : ℕ) (bytes : List ℕ) (none : List LogItem) → none ≡ [] → AreBytes bytes → ReadSoFar first bytes none bytes first 0
reads_none first bytes none e are =
    subst (λ (l : List LogItem). ReadSoFar first bytes l bytes first 0) (sym e)
    (record { bytes_are = refl; fit = refl; version_is = omega arith; least_is = refl; rest_are = are })

pub reads_on : (first : ℕ) (bytes : List ℕ) (read new : List LogItem) (rest : List ℕ) (version least : ℕ) (gate : ℕ) (more : List ℕ) (i : LogItem) (next : List ℕ) → new ≡ read ++ i ∷ [] → ReadSoFar first bytes read rest version least
    → rest ≡ gate ∷ more → gate ≡ 1 → (item version least).read more ≡ Ok (i, next) → ReadSoFar first bytes new next (version + 1) i.moment
reads_on first bytes read new rest version least gate more i next new_is r rest_is open_gate e =
    let here : rest ≡ 1 ∷ more = rest_is ∙ ap (λ (g : ℕ). g ∷ more) open_gate in
    let are : AreBytes more = λ k. subst (λ (l : List ℕ). get_or l (suc k) 0 < 256) here (r.rest_are (suc k)) in
    let t = item_takes version least more (i, next) are e in
    let fits : (item (first + length read) (last_moment 0 read)).fits i ≡ true = subst (λ (l : ℕ). (item (first + length read) l).fits i ≡ true) r.least_is (subst (λ (v : ℕ). (item v least).fits i ≡ true) r.version_is t.1) in
    let front : rest ≡ 1 ∷ (item_bytes i ++ next) = here ∙ ap (λ (l : List ℕ). 1 ∷ l) t.0.parts in
    let rise : version + 1 ≡ first + length (read ++ i ∷ []) = omega (arith, r.version_is, length_push read i) in
    subst (λ (l : List LogItem). ReadSoFar first bytes l next (version + 1) i.moment) (sym new_is)
    (record {
      bytes_are = r.bytes_are ∙ ap (λ (l : List ℕ). opened read ++ l) front ∙ sym (opened-push read i next);
      fit = items_fit-push first 0 read i r.fit fits;
      version_is = rise;
      least_is = sym (last_moment-push 0 read i);
      rest_are = t.0.rest_are;
    })

pub read_is : (first : ℕ) (bytes : List ℕ) (read : List LogItem) (rest : List ℕ) (version least : ℕ) (gate : ℕ) (more : List ℕ) → ReadSoFar first bytes read rest version least → rest ≡ gate ∷ more → gate ≢ 1 → IsLog first bytes read
read_is first bytes read rest version least gate more r rest_is shut =
    record { gate = gate; rest = more; closed = shut; bytes_are = r.bytes_are ∙ ap (λ (l : List ℕ). opened read ++ l) rest_is; fit = r.fit }

-- and the gate stands at this place
pub gate_is : (first : ℕ) (bytes : List ℕ) (read : List LogItem) (rest : List ℕ) (version least : ℕ) (gate : ℕ) (more : List ℕ) (at : ℕ) → ReadSoFar first bytes read rest version least → rest ≡ gate ∷ more → gate ≢ 1 → at ≡ length bytes - length rest → LogAt first read at bytes
gate_is first bytes read rest version least gate more at r rest_is shut place =
    record { log = read_is first bytes read rest version least gate more r rest_is shut; place = omega (arith, place, ap length r.bytes_are, length-append (opened read) rest) }

read_breaks : (first : ℕ) (bytes : List ℕ) (read : List LogItem) (rest : List ℕ) (version least left at : ℕ) → ReadSoFar first bytes read rest version least → Breaks version least rest left → at ≡ length bytes - left → BreaksAt first bytes read at
read_breaks first bytes read rest version least left at r breaks place =
    record {
      rest = rest;
      left = left;
      bytes_are = r.bytes_are;
      fit = r.fit;
      breaks = subst (λ (l : ℕ). Breaks (first + length read) l rest left) r.least_is (subst (λ (v : ℕ). Breaks v least rest left) r.version_is breaks);
      place = place;
    }

-- no gate is there
pub ends_short : (first : ℕ) (bytes : List ℕ) (read : List LogItem) (rest : List ℕ) (version least at : ℕ) → ReadSoFar first bytes read rest version least → length rest ≡ 0 → at ≡ length bytes → BreaksAt first bytes read at
ends_short first bytes read [] version least at r short place = read_breaks first bytes read [] version least 0 at r refl (omega (arith, place))
ends_short first bytes read (b ∷ rest) version least at r none place = absurd (omega (arith, none))

-- an item takes bytes
pub reads_less : (version least gate : ℕ) (rest more : List ℕ) (i : LogItem) (next : List ℕ) → AreBytes rest → rest ≡ gate ∷ more → (item version least).read more ≡ Ok (i, next) → length next < length rest
reads_less version least gate rest more i next are rest_is e =
    let more_are : AreBytes more = λ k. subst (λ (l : List ℕ). get_or l (suc k) 0 < 256) rest_is (are (suc k)) in
    let t = item_takes version least more (i, next) more_are e in
    omega (arith, ap length rest_is, ap length t.0.parts, length-append (item_bytes i) next)

-- behind an open gate the item breaks its form
pub ends_broken : (first : ℕ) (bytes : List ℕ) (read : List LogItem) (rest : List ℕ) (version least gate : ℕ) (more : List ℕ) (left at : ℕ) → ReadSoFar first bytes read rest version least → rest ≡ gate ∷ more → gate ≡ 1
    → (item version least).read more ≡ Err left → at ≡ length bytes - left → BreaksAt first bytes read at
ends_broken first bytes read rest version least gate more left at r rest_is open_gate e place =
    read_breaks first bytes read (gate ∷ more) version least left at (subst (λ (l : List ℕ). ReadSoFar first bytes read l version least) rest_is r) (open_gate, e) place

-- ---- one log

-- no item of this version, and of a moment from this one on, stands behind an open gate here
abbrev Stops : ℕ → ℕ → List ℕ → Type 0
Stops version least rest = (i : LogItem) (more : List ℕ) → rest ≡ 1 ∷ (item_bytes i ++ more) → (item version least).fits i ≡ true → ⊥

ok_err : {A : Type 0} (r : Result A ℕ) (x : A) (d : ℕ) → r ≡ Ok x → r ≡ Err d → ⊥
ok_err r x d e f = absurd cc

err_is : {A : Type 0} (r : Result A ℕ) (c d : ℕ) → r ≡ Err c → r ≡ Err d → c ≡ d
err_is r c d e f = cc

tail_is : (a b : ℕ) (xs ys : List ℕ) → a ∷ xs ≡ b ∷ ys → xs ≡ ys
tail_is a b xs ys e = cc

closed_stops : (version least gate : ℕ) (rest : List ℕ) → gate ≢ 1 → Stops version least (gate ∷ rest)
closed_stops version least gate rest shut i more e fits = shut (ap (λ (l : List ℕ). get_or l 0 0) e)

breaks_stops : (version least : ℕ) (rest : List ℕ) (left : ℕ) → Breaks version least rest left → Stops version least rest
breaks_stops version least [] left breaks i more e fits = absurd (omega (arith, ap length e))
breaks_stops version least (gate ∷ rest) left breaks i more e fits =
    let whole : (item version least).read rest ≡ Ok (i, more) = ap (item version least).read (tail_is gate 1 rest (item_bytes i ++ more) e) ∙ item_again version least i more fits in
    ok_err ((item version least).read rest) (i, more) left whole breaks.1

same_items : (version least : ℕ) (a b : List LogItem) (x y : List ℕ) → items_fit version least a ≡ true → items_fit version least b ≡ true → Stops (version + length a) (last_moment least a) x → Stops (version + length b) (last_moment least b) y
    → opened a ++ x ≡ opened b ++ y → (a ≡ b) × (x ≡ y)
same_items version least [] [] x y fa fb sx sy e = (refl, e)
same_items version least [] (j ∷ js) x y fa fb sx sy e =
    let f = and_parts ((item version least).fits j) (items_fit (version + 1) j.moment js) fb in
    let none : version ≡ version + 0 = omega arith in
    absurd (sx j (opened js ++ y) (e ∙ ap (λ (l : List ℕ). 1 ∷ l) (append_assoc (item_bytes j) (opened js) y)) (subst (λ (n : ℕ). (item n least).fits j ≡ true) none f.0))
same_items version least (i ∷ is) [] x y fa fb sx sy e =
    let f = and_parts ((item version least).fits i) (items_fit (version + 1) i.moment is) fa in
    let none : version ≡ version + 0 = omega arith in
    absurd (sy i (opened is ++ x) (sym e ∙ ap (λ (l : List ℕ). 1 ∷ l) (append_assoc (item_bytes i) (opened is) x)) (subst (λ (n : ℕ). (item n least).fits i ≡ true) none f.0))
same_items version least (i ∷ is) (j ∷ js) x y fa fb sx sy e =
    let f = and_parts ((item version least).fits i) (items_fit (version + 1) i.moment is) fa in
    let g = and_parts ((item version least).fits j) (items_fit (version + 1) j.moment js) fb in
    let tails : (item_bytes i ++ opened is) ++ x ≡ (item_bytes j ++ opened js) ++ y = tail_is 1 1 ((item_bytes i ++ opened is) ++ x) ((item_bytes j ++ opened js) ++ y) e in
    let apart : item_bytes i ++ (opened is ++ x) ≡ item_bytes j ++ (opened js ++ y) = sym (append_assoc (item_bytes i) (opened is) x) ∙ tails ∙ append_assoc (item_bytes j) (opened js) y in
    let both = sym (item_again version least i (opened is ++ x) f.0) ∙ ap (item version least).read apart ∙ item_again version least j (opened js ++ y) g.0 in
    let p : (i, opened is ++ x) ≡ (j, opened js ++ y) = ok_is (i, opened is ++ x) (j, opened js ++ y) both in
    let same : i ≡ j = ap (λ (q : LogItem × List ℕ). q.0) p in
    let rests : opened is ++ x ≡ opened js ++ y = ap (λ (q : LogItem × List ℕ). q.1) p in
    let ea : version + suc (length is) ≡ (version + 1) + length is = omega arith in
    let eb : version + suc (length js) ≡ (version + 1) + length js = omega arith in
    let sa : Stops ((version + 1) + length is) (last_moment i.moment is) x = subst (λ (n : ℕ). Stops n (last_moment i.moment is) x) ea sx in
    let sb : Stops ((version + 1) + length js) (last_moment j.moment js) y = subst (λ (n : ℕ). Stops n (last_moment j.moment js) y) eb sy in
    let fjs : items_fit (version + 1) i.moment js ≡ true = subst (λ (k : LogItem). items_fit (version + 1) k.moment js ≡ true) (sym same) g.1 in
    let sjs : Stops ((version + 1) + length js) (last_moment i.moment js) y = subst (λ (k : LogItem). Stops ((version + 1) + length js) (last_moment k.moment js) y) (sym same) sb in
    let others = same_items (version + 1) i.moment is js x y f.1 fjs sa sjs rests in
    (ap (λ (k : LogItem). k ∷ is) same ∙ ap (λ (ks : List LogItem). j ∷ ks) others.0, others.1)

pub one_log : (first : ℕ) (bytes : List ℕ) (a b : List LogItem) → IsLog first bytes a → IsLog first bytes b → a ≡ b
one_log first bytes a b p q =
    (same_items first 0 a b (p.gate ∷ p.rest) (q.gate ∷ q.rest) p.fit q.fit (closed_stops (first + length a) (last_moment 0 a) p.gate p.rest p.closed) (closed_stops (first + length b) (last_moment 0 b) q.gate q.rest q.closed) (sym p.bytes_are ∙ q.bytes_are)).0

closed_breaks : (version least gate : ℕ) (rest other : List ℕ) (left : ℕ) → gate ≢ 1 → gate ∷ rest ≡ other → Breaks version least other left → ⊥
closed_breaks version least gate rest other left shut same breaks = let b = subst (λ (l : List ℕ). Breaks version least l left) (sym same) breaks in shut b.0

pub log_or_break : (first : ℕ) (bytes : List ℕ) (a b : List LogItem) (at : ℕ) → IsLog first bytes a → BreaksAt first bytes b at → ⊥
log_or_break first bytes a b at p q =
    let s = same_items first 0 a b (p.gate ∷ p.rest) q.rest p.fit q.fit (closed_stops (first + length a) (last_moment 0 a) p.gate p.rest p.closed) (breaks_stops (first + length b) (last_moment 0 b) q.rest q.left q.breaks) (sym p.bytes_are ∙ q.bytes_are) in
    closed_breaks (first + length b) (last_moment 0 b) p.gate p.rest q.rest q.left p.closed s.1 q.breaks

breaks_once : (version least : ℕ) (rest : List ℕ) (c d : ℕ) → Breaks version least rest c → Breaks version least rest d → c ≡ d
breaks_once version least [] c d p q = p ∙ sym q
breaks_once version least (gate ∷ rest) c d p q = err_is ((item version least).read rest) c d p.1 q.1

pub one_break : (first : ℕ) (bytes : List ℕ) (a b : List LogItem) (at other : ℕ) → BreaksAt first bytes a at → BreaksAt first bytes b other → (a ≡ b) × (at ≡ other)
one_break first bytes a b at other p q =
    let s = same_items first 0 a b p.rest q.rest p.fit q.fit (breaks_stops (first + length a) (last_moment 0 a) p.rest p.left p.breaks) (breaks_stops (first + length b) (last_moment 0 b) q.rest q.left q.breaks) (sym p.bytes_are ∙ q.bytes_are) in
    let items = subst (λ (l : List LogItem). Breaks (first + length l) (last_moment 0 l) q.rest q.left) (sym s.0) q.breaks in
    let breaks = subst (λ (l : List ℕ). Breaks (first + length a) (last_moment 0 a) l q.left) (sym s.1) items in
    let left : p.left ≡ q.left = breaks_once (first + length a) (last_moment 0 a) p.rest p.left q.left p.breaks breaks in
    (s.0, p.place ∙ ap (λ (n : ℕ). length bytes - n) left ∙ sym q.place)

-- a log is read, unless memory runs out
pub answers_only : (first : ℕ) (bytes : List ℕ) (r : Result (List LogItem) LogFault) (items : List LogItem) → Answers first bytes r → IsLog first bytes items → (r ≡ Ok items) ⊎ (r ≡ Err faults.NoMemory)
answers_only first bytes (Ok a) items answer log = inl (ap (λ (l : List LogItem). Ok l) (one_log first bytes a items answer log))
answers_only first bytes (Err (faults.NotThis at a)) items answer log = absurd (log_or_break first bytes items a at log answer)
answers_only first bytes (Err faults.NoMemory) items answer log = inr refl

-- whatever stands behind a closed gate
pub behind_gate : (first : ℕ) (items : List LogItem) (gate : ℕ) (rest other : List ℕ) → gate ≢ 1 → IsLog first (opened items ++ gate ∷ rest) items → IsLog first (opened items ++ gate ∷ other) items
behind_gate first items gate rest other shut log = record { gate = gate; rest = other; closed = shut; bytes_are = refl; fit = log.fit }

pub answers_at_only : (first : ℕ) (bytes : List ℕ) (r : Result (List LogItem × ℕ) LogFault) (items : List LogItem) (at : ℕ) → AnswersAt first bytes r → LogAt first items at bytes → (r ≡ Ok (items, at)) ⊎ (r ≡ Err faults.NoMemory)
answers_at_only first bytes (Ok x) items at answer log =
    let same = one_log first bytes x.0 items answer.log log.log in
    let place : x.1 ≡ at = answer.place ∙ ap (λ (l : List LogItem). length (opened l)) same ∙ sym log.place in
    inl (ap (λ (l : List LogItem). Ok (l, x.1)) same ∙ ap (λ (n : ℕ). Ok (items, n)) place)
answers_at_only first bytes (Err (faults.NotThis at a)) items place answer log = absurd (log_or_break first bytes items a at log.log answer)
answers_at_only first bytes (Err faults.NoMemory) items at answer log = inr refl

pub fault_only : {A : Type 0} (first : ℕ) (bytes : List ℕ) (fault : LogFault) (x : A) (items : List LogItem) → AnswersAt first bytes (Err fault) → IsLog first bytes items → ◌≡◌ {A = Result A LogFault} (Err fault) (Ok x) ⊎ ◌≡◌ {A = Result A LogFault} (Err fault) (Err faults.NoMemory)
fault_only first bytes (faults.NotThis at a) x items answer log = absurd (log_or_break first bytes items a at log answer)
fault_only first bytes faults.NoMemory x items answer log = inr refl
