-- Bytes that are added piece by piece.
use Rattle.std.proofs.Common.{◌≡◌, ℕ, ◌≤◌, List, [], ◌++◌, Option, Some, None, Result, Ok, Err, refl, sym, ap, subst, ◌∙◌, append_assoc, arith}
use Rattle.std.proofs.lemmas.List.{append-nil}
use Rattle.std.specs.Io.KnownBytes.{append_known}
use Rattle.td_outside.specs.declared.faults.IoFault.{IoFault}
use Rattle.td_outside.specs.declared.faults.IoFault.TheVariants as io
use Rattle.td_outside.specs.Causes.{HasFault}
use Rattle.td_outside.specs.Image.{Becomes}
use Rattle.td_fileio.specs.Writing.{Adds}

pub append_twice : (o : Option (List ℕ)) (xs ys : List ℕ) → append_known (append_known o xs) ys ≡ append_known o (xs ++ ys)
append_twice None xs ys = refl
append_twice (Some w) xs ys = ap (λ l. Some l) (append_assoc w xs ys)

pub append_none : (o : Option (List ℕ)) → append_known o [] ≡ o
append_none None = refl
append_none (Some w) = ap (λ l. Some l) (append-nil w)

-- a writer took what waited
pub took : (old now : Option (List ℕ)) (bytes : List ℕ) → Becomes (λ w. w ++ bytes) old now → now ≡ append_known old bytes
took None None bytes b = refl
took None (Some y) bytes b = absurd b
took (Some x) None bytes b = absurd b
took (Some x) (Some y) bytes b = ap (λ l. Some l) b

-- an error is the same whatever the value would be
abbrev failed : (T : Type 0) → IoFault → Result T IoFault
failed T e = Err e

at_other : (T U : Type 0) (e d : IoFault) → failed U e ≡ failed U d → failed T e ≡ failed T d
at_other T U e d p = ap (failed T) (inside p) where
  inside : failed U e ≡ failed U d → e ≡ d
  inside q = cc

-- a fault where all before was calm
pub fault_later : {T U : Type 0} (m n k : ℕ) (r : Result T IoFault) (s : Result U IoFault) (e : IoFault) → n ≡ m → r ≡ Err e → s ≡ Err e → HasFault n k r → HasFault m k s
fault_later {T} {U} m n k r s e calm re se h =
    let h' : HasFault {T = T} n k (Err e) = subst (λ x. HasFault n k x) re h in
    subst (λ x. HasFault m k x) (sym se) (subst (λ i. HasFault {T = U} i k (Err e)) calm (other e h')) where
      other : (e : IoFault) → HasFault {T = T} n k (Err e) → HasFault {T = U} n k (Err e)
      other e h = record { later = h.later; failed = λ p. h.failed (at_other T U e io.Failed p); no_memory = λ p. h.no_memory (at_other T U e io.NoMemory p); kept = tt }

-- ---- bytes that are added one piece after the other

-- What a writer has been given with those that are left makes all, and nothing failed.
pub record AddsSoFar (start now : Option (List ℕ)) (name name' count count' : ℕ) (left all : List ℕ) : Type 0 where
  pub sent : append_known now left ≡ append_known start all
  pub name_is : name' ≡ name
  pub calm : count' ≡ count

pub begins_adding : (start : Option (List ℕ)) (name count : ℕ) (all : List ℕ) → AddsSoFar start start name name count count all all
begins_adding start name count all = record { sent = refl; name_is = refl; calm = refl }

pub adds_more : {T : Type 0} (start now later : Option (List ℕ)) (n0 n1 n2 c0 c1 c2 : ℕ) (piece left all : List ℕ) (r : Result T IoFault) (v : T) → AddsSoFar start now n0 n1 c0 c1 (piece ++ left) all → r ≡ Ok v → Adds now later n1 n2 c1 c2 r piece
    → AddsSoFar start later n0 n2 c0 c2 left all
adds_more {T} start now later n0 n1 n2 c0 c1 c2 piece left all r v s re a =
    let b : Adds {T = T} now later n1 n2 c1 c2 (Ok v) piece = subst (λ x. Adds now later n1 n2 c1 c2 x piece) re a in
    record {
      sent = ap (λ o. append_known o left) b.ok ∙ append_twice now piece left ∙ s.sent;
      name_is = b.name_is ∙ s.name_is;
      calm = b.cause.kept ∙ s.calm;
    }

pub adds_all : {T : Type 0} (start now : Option (List ℕ)) (n0 n1 c0 c1 : ℕ) (all : List ℕ) (v : T) → AddsSoFar start now n0 n1 c0 c1 [] all → Adds start now n0 n1 c0 c1 (Ok v) all
adds_all start now n0 n1 c0 c1 all v s = record {
  ok = sym (append_none now) ∙ s.sent;
  name_is = s.name_is;
  cause = record { later = subst (λ (k : ℕ). c0 ≤ k) (sym s.calm) (omega arith); failed = λ e. absurd (cc); no_memory = λ e. s.calm; kept = s.calm };
}

pub adds_fails : {T U : Type 0} (start now later : Option (List ℕ)) (n0 n1 n2 c0 c1 c2 : ℕ) (piece left all : List ℕ) (r : Result T IoFault) (s : Result U IoFault) (e : IoFault) → AddsSoFar start now n0 n1 c0 c1 left all → r ≡ Err e → s ≡ Err e
    → Adds now later n1 n2 c1 c2 r piece → Adds start later n0 n2 c0 c2 s all
adds_fails {T} {U} start now later n0 n1 n2 c0 c1 c2 piece left all r s e so re se a =
    subst (λ x. Adds start later n0 n2 c0 c2 x all) (sym se) (record { ok = tt; name_is = a.name_is ∙ so.name_is; cause = fault_later {T = T} {U = U} c0 c1 c2 r (Err e) e so.calm re refl a.cause })

-- there was no memory for a piece
pub adds_no_memory : {U : Type 0} (start now : Option (List ℕ)) (n0 n1 c0 c1 : ℕ) (left all : List ℕ) (s : Result U IoFault) → AddsSoFar start now n0 n1 c0 c1 left all → s ≡ Err io.NoMemory → Adds start now n0 n1 c0 c1 s all
adds_no_memory {U} start now n0 n1 c0 c1 left all s so se =
    subst (λ x. Adds start now n0 n1 c0 c1 x all) (sym se)
    (record { ok = tt; name_is = so.name_is; cause = record { later = subst (λ (k : ℕ). c0 ≤ k) (sym so.calm) (omega arith); failed = λ e. absurd cc; no_memory = λ e. so.calm; kept = tt } })
