-- What is read of a store, and where its head lacks what it names.
use Rattle.std.proofs.Common.{◌≡◌, ◌⊎◌, inl, inr, ℕ, ◌+◌, ◌≤◌, Bool, true, false, List, [], ◌∷◌, take, slice_get, Option, Some, None, refl, sym, ap, subst, ◌∙◌}
use Rattle.std.specs.Prelude.{◌≢◌, All, IfSome, IsSome, is_some, Result, Ok, Err, IfErr, IsErrAnd}
use Rattle.std.proofs.lemmas.Bool.{true≢false}
use Rattle.std.proofs.lemmas.List.Elements.{All-weaker}
use Rattle.td_outside.specs.Image.{Image, Along}
use Rattle.td_outside.specs.Files.{lists, NamesFiles, IsFinished}
use Rattle.td_outside.specs.Causes.{HasFault, Rose}
use Rattle.td_outside.specs.declared.faults.IoFault.{IoFault}
use Rattle.td_outside.specs.declared.faults.IoFault.TheVariants as io
use Rattle.td_manifest.specs.declared.head.Head.{Head}
use Rattle.td_manifest.specs.declared.head.HeadStream.{HeadStream}
use Rattle.td_manifest.specs.Files.{all_files}
use Rattle.td_stands.specs.declared.file_id.FileId.{FileId}
use Rattle.td_stands.specs.declared.file_id.FileId.TheVariants as files
use Rattle.td_stands.specs.Heads.{HeadIs}
use Rattle.td_stands.specs.Breaks.{FirstMissing, HeadRefuses, HeadBreaks, HeadStands, BreaksFirst}
use Rattle.td_opening.specs.declared.causes.OpenCause.{OpenCause}
use Rattle.td_opening.specs.declared.causes.OpenCause.TheVariants as causes
use Rattle.td_opening.specs.declared.opening.Said.{Said}
use Rattle.td_opening.specs.declared.replaying.LogBytes.{LogBytes}
use Rattle.td_opening.specs.Opening.{open_cause, CountIsBy, CountIs, BreaksBy, HasAll, FirstUnlisted, HeadLacks, HoldsLogs, bytes_at, Says, LogsRefuse, Tidies, StandAlike}

-- ---- the files that a head names

finished_by : (names : List ℕ) (image : Image) → NamesFiles names image → (n : ℕ) → lists n names ≡ true → IsFinished n image
finished_by names image are n is = subst (λ (b : Bool). b ≡ true) (are.each n) is

all_finished : (names xs : List ℕ) (image : Image) → NamesFiles names image → All (λ (n : ℕ). lists n names ≡ true) xs → All (λ (n : ℕ). IsFinished n image) xs
all_finished names xs image are all = All-weaker (λ (n : ℕ). lists n names ≡ true) (λ (n : ℕ). IsFinished n image) (finished_by names image are) xs all

none_is : (o : Option (List ℕ)) → is_some o ≡ false → o ≡ None
none_is None e = refl
none_is (Some x) e = absurd (true≢false e)

missing : (names : List ℕ) (image : Image) (h : Head) (i : ℕ) → NamesFiles names image → FirstUnlisted h names i → FirstMissing image (all_files h.sets) i
missing names image h i are u = record {
  name = u.name;
  there = u.there;
  missing = none_is (image.files u.name) (sym (are.each u.name) ∙ u.unlisted);
  before = all_finished names (take i (all_files h.sets)) image are u.before;
}

pub head_stands : (h : Head) (names : List ℕ) (image : Image) → HeadIs image.head h → NamesFiles names image → HasAll h names → HeadStands image h
head_stands h names image is are has = record { head = is; finished = all_finished names (all_files h.sets) image are has.files; no_streams = has.no_streams }

no_file : (i name : ℕ) → slice_get [] i ≡ Some name → ⊥
no_file i name e = cc

-- a head that isn't there lacks nothing
none_lacks : (h : Head) (at : ℕ) (image : Image) → HeadIs None h → HeadRefuses image h at → ⊥
none_lacks h at image is (inl r) = no_file r.0 r.1.name (subst (λ (x : Head). slice_get (all_files x.sets) r.0 ≡ Some r.1.name) is r.1.there)
none_lacks h at image is (inr r) = r.1 (ap (λ (x : Head). x.streams) is)

head_breaks : (h : Head) (at : ℕ) (image : Image) (o : Option (List ℕ)) → HeadIs o h → HeadRefuses image h at → HeadBreaks image o at
head_breaks h at image None is r = none_lacks h at image is r
head_breaks h at image (Some bytes) is r = inr (h, is, r)

head_refuses : (h : Head) (names : List ℕ) (file : FileId) (at : ℕ) (image : Image) → NamesFiles names image → HeadLacks h names (causes.NotThisStore file at) → (file ≡ files.Head) × HeadRefuses image h at
head_refuses h names file at image are (is, inl l) = (is, inl (l.0, missing names image h l.0 are l.1, l.2))
head_refuses h names file at image are (is, inr l) = (is, inr (all_finished names (all_files h.sets) image are l.0, l.1, l.2))

-- where a head lacks a file that it names, or has a stream, the image breaks first
pub lacks_breaks : (h : Head) (names : List ℕ) (cause : OpenCause) (image : Image) → HeadIs image.head h → NamesFiles names image → HeadLacks h names cause → BreaksBy cause image
lacks_breaks h names (causes.NotThisStore file at) image is are l =
    let r = head_refuses h names file at image are l in
    subst (λ (f : FileId). BreaksFirst image f at) (sym r.0) (head_breaks h at image image.head is r.1)
lacks_breaks h names causes.StoreFault image is are l = absurd l
lacks_breaks h names causes.NoMemory image is are l = tt

-- ---- what is told

pub told_lacks : (h : Head) (names : List ℕ) (cause : OpenCause) (told : Option Image) → IfSome told (λ image. HeadIs image.head h) → IfSome told (NamesFiles names) → HeadLacks h names cause → IfSome told (BreaksBy cause)
told_lacks h names cause None is are l = tt
told_lacks h names cause (Some image) is are l = lacks_breaks h names cause image is are l

pub told_says : (said : Said) (told : Option Image) → IfSome told (λ image. HeadIs image.head said.head) → IfSome told (NamesFiles said.names) → HasAll said.head said.names
    → IfSome told (λ image. said.logs.first ≡ bytes_at said.head.first_log image) → IfSome told (λ image. said.logs.second ≡ bytes_at (said.head.first_log + 1) image) → IfSome told (Says said)
told_says said None is are has first second = tt
told_says said (Some image) is are has first second = record {
  head = head_stands said.head said.names image is are has;
  names = are;
  logs = record { first = first; second = second };
}

pub told_refuse : (said : Said) (cause : OpenCause) (told : Option Image) → IfSome told (Says said) → LogsRefuse said.head said.logs cause → IfSome told (BreaksBy cause)
told_refuse said cause None says refuse = tt
told_refuse said (causes.NotThisStore file at) (Some image) says refuse = refuse image says.head says.logs
told_refuse said causes.StoreFault (Some image) says refuse = tt
told_refuse said causes.NoMemory (Some image) says refuse = tt

-- what isn't changed is tidied
pub told_tidy : (old new : Option Image) → new ≡ old → Along Tidies old new
told_tidy old new e = subst (λ (x : Option Image). Along Tidies old x) (sym e) (self old)
  where
    self : (o : Option Image) → Along Tidies o o
    self None = tt
    self (Some image) = record { rest = refl; alike = λ s. (λ p. p, λ p. p) }

-- ---- causes

-- no place is named by the cause of a call on the store
pub io_breaks : (fault : IoFault) (told : Option Image) → IfSome told (BreaksBy (open_cause fault))
io_breaks io.Failed None = tt
io_breaks io.NoMemory None = tt
io_breaks io.Failed (Some image) = tt
io_breaks io.NoMemory (Some image) = tt

pub fault_breaks : (cause : OpenCause) (told : Option Image) → cause ≡ causes.StoreFault → IfSome told (BreaksBy cause)
fault_breaks cause told e = subst (λ (c : OpenCause). IfSome told (BreaksBy c)) (sym e) (nothing told)
  where
    nothing : (o : Option Image) → IfSome o (BreaksBy causes.StoreFault)
    nothing None = tt
    nothing (Some image) = tt

-- a fault of the store says nothing of other causes
pub fault_apart : {T : Type 0} (Q : Type 0) (r : Result T OpenCause) (cause : OpenCause) → IsErrAnd r (λ e. e ≡ cause) → cause ≡ causes.StoreFault → IfErr r (λ e. e ≢ causes.StoreFault → Q)
fault_apart Q (Ok v) cause is fault = tt
fault_apart Q (Err e) cause is fault = λ other. absurd (other (is ∙ fault))

-- the count of an answer that hands a cause on
pub count_handed_on : {T : Type 0} (r : Result T OpenCause) (cause : OpenCause) (before between now : ℕ) → IsErrAnd r (λ e. e ≡ cause) → between ≡ before → CountIsBy cause between now → CountIs r before now
count_handed_on (Ok v) cause before between now is same p = absurd is
count_handed_on (Err e) cause before between now is same p =
    subst (λ (c : OpenCause). CountIsBy c before now) (sym is) (subst (λ (n : ℕ). CountIsBy cause n now) same p)

-- want of memory, and a place that is named, leave the count
pub lacks_count : (h : Head) (names : List ℕ) (cause : OpenCause) (n : ℕ) → HeadLacks h names cause → CountIsBy cause n n
lacks_count h names (causes.NotThisStore file at) n l = refl
lacks_count h names causes.StoreFault n l = absurd l
lacks_count h names causes.NoMemory n l = refl

pub refuse_count : (h : Head) (logs : LogBytes) (cause : OpenCause) (n : ℕ) → LogsRefuse h logs cause → CountIsBy cause n n
refuse_count h logs (causes.NotThisStore file at) n l = refl
refuse_count h logs causes.StoreFault n l = absurd l
refuse_count h logs causes.NoMemory n l = refl
