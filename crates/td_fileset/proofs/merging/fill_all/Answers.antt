use Rattle.std.proofs.Common.{◌≡◌, ℕ, ◌+◌, ◌<◌, get_or, length, ap, subst, ◌∙◌, add-one, arith, Option, List, slice_set}
use Rattle.std.specs.Prelude.{Result}
use Rattle.std.proofs.Math.Seq.{map-set_same}
use Rattle.std.proofs.lemmas.Result.{err_from_is_err_and}
use Rattle.std.proofs.lemmas.List.Sums.{sum_by-set}
use Rattle.td_layer.specs.Scans.{Places, HasScanCause}
use Rattle.td_fileset.specs.Sources.{Fed, told_layer, waits, IsSettled}
use Rattle.td_fileset.specs.Merged.{all_told, told_places, places_of, waiting, faults_of}
use Rattle.td_fileset.proofs.Causes.{fault_at, all_up_to, counts_of}
use Rattle.td_fileset.proofs.merging.fill_all.Goals as goal

pub returns-in_err-fill-clause-layers : goal.returns-in_err-fill-clause-layers
returns-in_err-fill-clause-layers g c =
    ap all_told (map-set_same told_layer c.loop-i.sources c.loop-i.i c.fill.new.self c.index-sources-i.result c.in_err-fill.ensures.layer) ∙ c.loop-i.invariant.layers

pub returns-in_err-fill-clause-places : goal.returns-in_err-fill-clause-places
returns-in_err-fill-clause-places g c =
    ap told_places (map-set_same (λ (f : Fed). f.damaged) c.loop-i.sources c.loop-i.i c.fill.new.self c.index-sources-i.result c.in_err-fill.ensures.damaged) ∙ c.loop-i.invariant.places

pub returns-in_err-fill-clause-reads : goal.returns-in_err-fill-clause-reads
returns-in_err-fill-clause-reads g c =
    map-set_same (λ (f : Fed). f.reads) c.loop-i.sources c.loop-i.i c.fill.new.self c.index-sources-i.result c.in_err-fill.ensures.reads ∙ c.loop-i.invariant.reads

cause_of : (fs all : List Fed) (now : List ℕ) (r : Result (Unit {0}) _) → HasScanCause (places_of fs) (faults_of (counts_of fs)) (faults_of now) r → places_of fs ≡ places_of all → counts_of fs ≡ counts_of all → HasScanCause (places_of all) (faults_of (counts_of all)) (faults_of now) r
cause_of fs all now r h e es = subst (λ (n : List ℕ). HasScanCause (places_of all) (faults_of n) (faults_of now) r) es (subst (λ (p : Option Places). HasScanCause p (faults_of (counts_of fs)) (faults_of now) r) e h)

pub returns-in_err-fill-clause-cause : goal.returns-in_err-fill-clause-cause
returns-in_err-fill-clause-cause g c =
    let p = err_from_is_err_and c.from_residual.result c.from_residual.ensures.1 in
    let e = c.in_err-fill.field-0.0 in
    let lt : c.loop-i.i < length c.loop-i.sources = omega arith in
    rw (p.1, p.2)
    (cause_of c.loop-i.sources c.args.sources.now (counts_of (slice_set c.loop-i.sources c.loop-i.i c.fill.new.self)) _
    (fault_at c.loop-i.sources c.loop-i.i c.fill.new.self c.index-sources-i.result e lt c.in_err-fill.ensures.cause)
    c.loop-i.invariant.places c.loop-i.invariant.counts)

step_on : (was now from new : ℕ) (fs all : List Fed) (i : ℕ) (y d : Fed) → i < length fs → from + waiting all ≡ was + waiting fs → new + waits (get_or fs i d).ahead ≡ from + waits y.ahead → new + waiting all ≡ was + waiting (slice_set fs i y)
step_on was now from new fs all i y d lt e es = omega (arith, sum_by-set (λ (f : Fed). waits f.ahead) fs i y d lt)

pub loop-i-preserved : goal.loop-i-preserved
loop-i-preserved g c =
    let said = c.in_ok-fill.ensures in
    let old = c.index-sources-i.result in
    let new = c.fill.new.self in
    let all = c.loop-i.sources in
    let i = c.loop-i.i in
    let lt : c.loop-i.i < length c.loop-i.sources = omega arith in
    record {
      layers = ap all_told (map-set_same told_layer all i new old said.layer) ∙ c.loop-i.invariant.layers;
      settled = rw add-one (all_up_to IsSettled all i new lt c.loop-i.invariant.settled said.settled);
      places = ap told_places (map-set_same (λ (f : Fed). f.damaged) all i new old said.damaged) ∙ c.loop-i.invariant.places;
      reads = map-set_same (λ (f : Fed). f.reads) all i new old said.reads ∙ c.loop-i.invariant.reads;
      counts = map-set_same (λ (f : Fed). f.count) all i new old said.cause.kept ∙ c.loop-i.invariant.counts;
      steps = step_on c.args.steps.now 0 c.loop-i.steps c.fill.new.steps all c.args.sources.now i new old lt c.loop-i.invariant.steps said.steps;
    }
