-- Pieces that are added one after the other.
use Rattle.std.proofs.Common.{◌≡◌, ℕ, List, [], ◌++◌, Option, Ok, Err, refl, subst, ◌∙◌}
use Rattle.td_outside.specs.declared.faults.IoFault.{IoFault}
use Rattle.td_fileio.specs.Writing.{Adds}
use Rattle.td_fileio.proofs.WriteLaws.{AddsSoFar, adds_more, adds_all, adds_fails, append_none}

-- a piece was added, and others are left
pub then : {T : Type 0} {start now later : Option (List ℕ)} {n0 n1 n2 c0 c1 c2 : ℕ} {all : List ℕ} {v : T} (piece left : List ℕ) → AddsSoFar start now n0 n1 c0 c1 (piece ++ left) all → Adds now later n1 n2 c1 c2 (Ok v) piece → AddsSoFar start later n0 n2 c0 c2 left all
then {T} {start} {now} {later} {n0} {n1} {n2} {c0} {c1} {c2} {all} {v} piece left s a = adds_more start now later n0 n1 n2 c0 c1 c2 piece left all (Ok v) v s refl a

-- the last piece was added
pub finally : {T U : Type 0} {start now later : Option (List ℕ)} {n0 n1 n2 c0 c1 c2 : ℕ} {all : List ℕ} {v : T} {u : U} (piece : List ℕ) → AddsSoFar start now n0 n1 c0 c1 piece all → Adds now later n1 n2 c1 c2 (Ok v) piece → Adds start later n0 n2 c0 c2 (Ok u) all
finally {T} {U} {start} {now} {later} {n0} {n1} {n2} {c0} {c1} {c2} {all} {v} {u} piece s a = record {
  ok = a.ok ∙ s.sent;
  name_is = a.name_is ∙ s.name_is;
  cause = (adds_all start later n0 n2 c0 c2 all u (record { sent = append_none later ∙ a.ok ∙ s.sent; name_is = a.name_is ∙ s.name_is; calm = a.cause.kept ∙ s.calm })).cause;
}

-- nothing is left
pub all_added : {U : Type 0} {start now : Option (List ℕ)} {n0 n1 c0 c1 : ℕ} {left all : List ℕ} {u : U} → AddsSoFar start now n0 n1 c0 c1 left all → left ≡ [] → Adds start now n0 n1 c0 c1 (Ok u) all
all_added {U} {start} {now} {n0} {n1} {c0} {c1} {left} {all} {u} s none = adds_all start now n0 n1 c0 c1 all u (subst (λ (l : List ℕ). AddsSoFar start now n0 n1 c0 c1 l all) none s)

-- a piece wasn't added
pub fails : {T U : Type 0} {start now later : Option (List ℕ)} {n0 n1 n2 c0 c1 c2 : ℕ} {piece left all : List ℕ} (e : IoFault) → AddsSoFar start now n0 n1 c0 c1 left all → Adds {T = T} now later n1 n2 c1 c2 (Err e) piece → Adds {T = U} start later n0 n2 c0 c2 (Err e) all
fails {T} {U} {start} {now} {later} {n0} {n1} {n2} {c0} {c1} {c2} {piece} {left} {all} e s a = adds_fails {T = T} {U = U} start now later n0 n1 n2 c0 c1 c2 piece left all (Err e) (Err e) e s refl refl a

-- the same of what is left, by an equation
pub so_far_at : {start now : Option (List ℕ)} {n0 n1 c0 c1 : ℕ} {left next all : List ℕ} → left ≡ next → AddsSoFar start now n0 n1 c0 c1 left all → AddsSoFar start now n0 n1 c0 c1 next all
so_far_at {start} {now} {n0} {n1} {c0} {c1} {left} {next} {all} e s = subst (λ (l : List ℕ). AddsSoFar start now n0 n1 c0 c1 l all) e s
