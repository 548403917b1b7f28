use Rattle.std.proofs.Common.{◌≡◌, inl, inr, ℕ, ◌-◌, List, map, length, Option, Some, None, refl, sym, ap, subst, ◌∙◌}
use Rattle.std.specs.Prelude.{Err, ◌++◌, ◌∷◌, []}
use Rattle.td_told.specs.Turn.{halt_line}
use Rattle.td_outside.specs.Image.{Image, Along, Becomes}
use Rattle.td_outside.specs.Files.{SwapFails}
use Rattle.td_manifest.specs.declared.head.Head.{Head}
use Rattle.td_levels.specs.Levels.{Levels}
use Rattle.td_levels.specs.Ranges.{with_files, sets_from, installed}
use Rattle.td_making.specs.Making.{IsNextHead, after_swaps, after_failed_drop}
use Rattle.td_active.specs.Active.{IsActive}
use Rattle.td_active.specs.Stored.{AreFinished, IsStored}
use Rattle.td_opening.proofs.HeadFacts.{head_log}
use Rattle.td_engine.specs.CoreState.{CoreState, seen, frozen_at, IsKept}
use Rattle.td_engine.specs.Commits.{KeepsFiles}
use Rattle.td_engine.specs.Installs.{HaveFiles}
use Rattle.td_engine.proofs.Making.{kept_more}
use Rattle.td_engine.proofs.Added.{keeps_told}
use Rattle.td_engine.proofs.Placing.{IsOver, out_version, sealing_out, writers_told, count_is, map_count, ready_told}
use Rattle.td_engine.proofs.Replacing.{IsReplaced, levels_now, rose_since, placed_halted, placed_now, done_told, not_dropped_told, not_swapped_told, installed_from, keeps_from, files_from, kept_halted}
use Rattle.td_engine.proofs.kept.Core.put_in_place.Goals as goal

pub finish_all-requires-clause-told : goal.finish_all-requires-clause-told
finish_all-requires-clause-told g c =
    let i = c.self.inside in
    let f = c.args.frozen.now in
    let contents = map g.S.Writer.Writer.written c.args.files in
    let have : HaveFiles (g.S.Store.told i.store) f contents = subst (λ k. HaveFiles (g.S.Store.told k.store) f contents) (sym c.self.view_is) c.requires.files in
    λ κs lives. writers_told (g.S.Store.told i.store) f contents have

pub invariant_of-self : goal.invariant_of-self
invariant_of-self g c =
    let i = c.self.inside in
    kept_more (g.S.Store.told i.store) (g.S.Store.told c.finish_all.new.store) i.tables.state i.levels i.committed i.sealed i.log i.floor i.journal.spare c.in-Err-Failed.ensures.some c.self.invariant

pub invariant_of-self-in-Err-NoMemory : goal.invariant_of-self-in-Err-NoMemory
invariant_of-self-in-Err-NoMemory g c =
    let i = c.self.inside in
    kept_more (g.S.Store.told i.store) (g.S.Store.told c.finish_all.new.store) i.tables.state i.levels i.committed i.sealed i.log i.floor i.journal.spare c.in-Err-NoMemory.ensures.some c.self.invariant

pub returns-in-Err-Failed-clause-ends : goal.returns-in-Err-Failed-clause-ends
returns-in-Err-Failed-clause-ends g c =
    let i = c.self.inside in
    let going : i.tables.state.halt ≡ None = ap (λ k. k.state.halt) c.self.view_is ∙ c.requires.going in
    let home = ap (λ k. k.flight) c.self.view_is ∙ c.requires.home in
    rw (← c.self.view_is) (going, home, record { state = refl; levels = refl; committed = refl; frozen_at = refl; flight = refl; pins = refl; base = refl; journal = refl; floor = refl; readings = refl }, keeps_told (g.S.Store.told i.store) (g.S.Store.told c.finish_all.new.store) c.in-Err-Failed.ensures.some, c.in-Err-Failed.ensures.failed (ap (λ e. Err e) c.in-Err-Failed.field-0-is))

pub returns-in-Err-NoMemory-clause-ends : goal.returns-in-Err-NoMemory-clause-ends
returns-in-Err-NoMemory-clause-ends g c =
    let i = c.self.inside in
    let going : i.tables.state.halt ≡ None = ap (λ k. k.state.halt) c.self.view_is ∙ c.requires.going in
    let home = ap (λ k. k.flight) c.self.view_is ∙ c.requires.home in
    rw (← c.self.view_is) (going, home, record { state = refl; levels = refl; committed = refl; frozen_at = refl; flight = refl; pins = refl; base = refl; journal = refl; floor = refl; readings = refl }, keeps_told (g.S.Store.told i.store) (g.S.Store.told c.finish_all.new.store) c.in-Err-NoMemory.ensures.some)

pub overflow_sub-older : goal.overflow_sub-older
overflow_sub-older g c =
    let i = c.self.inside in
    let f = c.args.frozen.now in
    let was : CoreState = seen g.S.Store.told g.S.Store.count g.C.Clock.readings c.args.self.now in
    let contents = map g.S.Writer.Writer.written c.args.files in
    let old = g.S.Store.told i.store in
    let going : i.tables.state.halt ≡ None = ap (λ k. k.state.halt) c.self.view_is ∙ c.requires.going in
    let home = ap (λ k. k.flight) c.self.view_is ∙ c.requires.home in
    let h = c.in-Some.head in
    let sealed : i.sealed ≡ Some h = c.in-Some.is in
    let over : IsOver i.tables.state i.levels i.committed h f was = record {
      out = c.requires.out;
      state = ap (λ k. k.state) (sym c.self.view_is);
      levels = ap (λ k. k.levels) (sym c.self.view_is);
      at = ap (λ k. k.frozen_at) (sym c.self.view_is) ∙ ap frozen_at sealed;
    } in
    (head_log h (sealing_out old i.tables.state i.levels i.committed i.sealed h i.log f was c.self.invariant.stored sealed over).fits).0

pub next_head-requires-clause-numbers : goal.next_head-requires-clause-numbers
next_head-requires-clause-numbers g c =
    let f = c.args.frozen.now in
    let contents = map g.S.Writer.Writer.written c.args.files in
    let i = c.self.inside in
    let old = g.S.Store.told i.store in
    let have : HaveFiles old f contents = subst (λ k. HaveFiles (g.S.Store.told k.store) f contents) (sym c.self.view_is) c.requires.files in
    count_is old f contents (length c.as_slice.result.now) have (ap (λ (ns : List ℕ). length ns) c.as_slice.ensures.value ∙ c.in-Ok.ensures.number ∙ sym (map_count g.S.Writer.Writer.written c.args.files))

pub invariant_of-self-in_default-next_head : goal.invariant_of-self-in_default-next_head
invariant_of-self-in_default-next_head g c =
    let i = c.self.inside in
    let f = c.args.frozen.now in
    let was : CoreState = seen g.S.Store.told g.S.Store.count g.C.Clock.readings c.args.self.now in
    let contents = map g.S.Writer.Writer.written c.args.files in
    let old = g.S.Store.told i.store in
    let going : i.tables.state.halt ≡ None = ap (λ k. k.state.halt) c.self.view_is ∙ c.requires.going in
    let home = ap (λ k. k.flight) c.self.view_is ∙ c.requires.home in
    let h = c.in-Some.head in
    let sealed : i.sealed ≡ Some h = c.in-Some.is in
    let over : IsOver i.tables.state i.levels i.committed h f was = record {
      out = c.requires.out;
      state = ap (λ k. k.state) (sym c.self.view_is);
      levels = ap (λ k. k.levels) (sym c.self.view_is);
      at = ap (λ k. k.frozen_at) (sym c.self.view_is) ∙ ap frozen_at sealed;
    } in
    let mid = g.S.Store.told c.finish_all.new.store in
    let same : Some c.next_head.new.head ≡ i.sealed = ap (λ (x : Head). Some x) c.next_head.ensures.kept ∙ sym sealed in
    subst (λ (o : Option Head). IsKept mid i.tables.state i.levels i.committed o i.log i.floor i.journal.spare) (sym same)
    (kept_more old mid i.tables.state i.levels i.committed i.sealed i.log i.floor i.journal.spare c.in-Ok.ensures.some c.self.invariant)

pub invariant_of-self-in-NoMemory : goal.invariant_of-self-in-NoMemory
invariant_of-self-in-NoMemory g c =
    let i = c.self.inside in
    let f = c.args.frozen.now in
    let was : CoreState = seen g.S.Store.told g.S.Store.count g.C.Clock.readings c.args.self.now in
    let contents = map g.S.Writer.Writer.written c.args.files in
    let old = g.S.Store.told i.store in
    let going : i.tables.state.halt ≡ None = ap (λ k. k.state.halt) c.self.view_is ∙ c.requires.going in
    let home = ap (λ k. k.flight) c.self.view_is ∙ c.requires.home in
    let h = c.in-Some.head in
    let sealed : i.sealed ≡ Some h = c.in-Some.is in
    let over : IsOver i.tables.state i.levels i.committed h f was = record {
      out = c.requires.out;
      state = ap (λ k. k.state) (sym c.self.view_is);
      levels = ap (λ k. k.levels) (sym c.self.view_is);
      at = ap (λ k. k.frozen_at) (sym c.self.view_is) ∙ ap frozen_at sealed;
    } in
    let mid = g.S.Store.told c.finish_all.new.store in
    let same : Some c.next_head.new.head ≡ i.sealed = ap (λ (x : Head). Some x) c.next_head.ensures.kept ∙ sym sealed in
    subst (λ st. IsKept (g.S.Store.told st) i.tables.state i.levels i.committed (Some c.next_head.new.head) i.log i.floor i.journal.spare) (sym (c.in-NoMemory.ensures.no_memory refl))
    (subst (λ (o : Option Head). IsKept mid i.tables.state i.levels i.committed o i.log i.floor i.journal.spare) (sym same)
    (kept_more old mid i.tables.state i.levels i.committed i.sealed i.log i.floor i.journal.spare c.in-Ok.ensures.some c.self.invariant))

pub returns-in_default-next_head-clause-ends : goal.returns-in_default-next_head-clause-ends
returns-in_default-next_head-clause-ends g c =
    let i = c.self.inside in
    let f = c.args.frozen.now in
    let was : CoreState = seen g.S.Store.told g.S.Store.count g.C.Clock.readings c.args.self.now in
    let contents = map g.S.Writer.Writer.written c.args.files in
    let old = g.S.Store.told i.store in
    let going : i.tables.state.halt ≡ None = ap (λ k. k.state.halt) c.self.view_is ∙ c.requires.going in
    let home = ap (λ k. k.flight) c.self.view_is ∙ c.requires.home in
    let h = c.in-Some.head in
    let sealed : i.sealed ≡ Some h = c.in-Some.is in
    let over : IsOver i.tables.state i.levels i.committed h f was = record {
      out = c.requires.out;
      state = ap (λ k. k.state) (sym c.self.view_is);
      levels = ap (λ k. k.levels) (sym c.self.view_is);
      at = ap (λ k. k.frozen_at) (sym c.self.view_is) ∙ ap frozen_at sealed;
    } in
    let mid = g.S.Store.told c.finish_all.new.store in
    let same : Some c.next_head.new.head ≡ i.sealed = ap (λ (x : Head). Some x) c.next_head.ensures.kept ∙ sym sealed in
    rw (← c.self.view_is) (going, home, record { state = refl; levels = refl; committed = refl; frozen_at = ap frozen_at same; flight = refl; pins = refl; base = refl; journal = refl; floor = refl; readings = refl }, keeps_told old mid c.in-Ok.ensures.some)

pub returns-in-NoMemory-clause-ends : goal.returns-in-NoMemory-clause-ends
returns-in-NoMemory-clause-ends g c =
    let i = c.self.inside in
    let f = c.args.frozen.now in
    let was : CoreState = seen g.S.Store.told g.S.Store.count g.C.Clock.readings c.args.self.now in
    let contents = map g.S.Writer.Writer.written c.args.files in
    let old = g.S.Store.told i.store in
    let going : i.tables.state.halt ≡ None = ap (λ k. k.state.halt) c.self.view_is ∙ c.requires.going in
    let home = ap (λ k. k.flight) c.self.view_is ∙ c.requires.home in
    let h = c.in-Some.head in
    let sealed : i.sealed ≡ Some h = c.in-Some.is in
    let over : IsOver i.tables.state i.levels i.committed h f was = record {
      out = c.requires.out;
      state = ap (λ k. k.state) (sym c.self.view_is);
      levels = ap (λ k. k.levels) (sym c.self.view_is);
      at = ap (λ k. k.frozen_at) (sym c.self.view_is) ∙ ap frozen_at sealed;
    } in
    let mid = g.S.Store.told c.finish_all.new.store in
    let same : Some c.next_head.new.head ≡ i.sealed = ap (λ (x : Head). Some x) c.next_head.ensures.kept ∙ sym sealed in
    let keeps = subst (λ st. Along KeepsFiles old (g.S.Store.told st)) (sym (c.in-NoMemory.ensures.no_memory refl)) (keeps_told old mid c.in-Ok.ensures.some) in
    rw (← c.self.view_is) (going, home, record { state = refl; levels = refl; committed = refl; frozen_at = ap frozen_at same; flight = refl; pins = refl; base = refl; journal = refl; floor = refl; readings = refl }, keeps)

pub returns-in-NotSwapped-clause-ends : goal.returns-in-NotSwapped-clause-ends
returns-in-NotSwapped-clause-ends g c =
    let i = c.self.inside in
    let f = c.args.frozen.now in
    let was : CoreState = seen g.S.Store.told g.S.Store.count g.C.Clock.readings c.args.self.now in
    let contents = map g.S.Writer.Writer.written c.args.files in
    let old = g.S.Store.told i.store in
    let going : i.tables.state.halt ≡ None = ap (λ k. k.state.halt) c.self.view_is ∙ c.requires.going in
    let home = ap (λ k. k.flight) c.self.view_is ∙ c.requires.home in
    let h = c.in-Some.head in
    let sealed : i.sealed ≡ Some h = c.in-Some.is in
    let over : IsOver i.tables.state i.levels i.committed h f was = record {
      out = c.requires.out;
      state = ap (λ k. k.state) (sym c.self.view_is);
      levels = ap (λ k. k.levels) (sym c.self.view_is);
      at = ap (λ k. k.frozen_at) (sym c.self.view_is) ∙ ap frozen_at sealed;
    } in
    let mid = g.S.Store.told c.finish_all.new.store in
    let new = g.S.Store.told c.swap.new.store in
    let numbers = c.in-Ok.numbers.items in
    let sets = c.in-Ok-next_head.next.sets.items in
    let bytes = c.in-Ok-next_head.next.bytes in
    let have : HaveFiles old f contents = subst (λ k. HaveFiles (g.S.Store.told k.store) f contents) (sym c.self.view_is) c.requires.files in
    let count : length numbers ≡ length f.ranges = count_is old f contents (length numbers) have (c.in-Ok.ensures.number ∙ sym (map_count g.S.Writer.Writer.written c.args.files)) in
    let next : IsNextHead i.levels h f.ranges numbers sets bytes = subst (λ (ns : List ℕ). IsNextHead i.levels h f.ranges ns sets bytes) c.as_slice.ensures.value c.in-Ok-next_head.ensures.ok in
    let ready = ready_told i.tables.state i.levels i.committed i.sealed h i.log f was numbers contents sets bytes old mid c.self.invariant.stored going sealed over have c.in-Ok.ensures.ok next in
    let version : f.version ≡ h.version = out_version i.tables.state i.levels i.committed h f was over in
    let swap = subst (λ (bs : List ℕ). Along (SwapFails bs) mid new) c.as_slice-2.ensures (c.in-NotSwapped.ensures.not_swapped refl) in
    let done = not_swapped_told i.tables.state i.levels i.committed i.sealed h i.log f was numbers contents sets bytes mid new ready swap in
    let same : Some c.next_head.new.head ≡ i.sealed = ap (λ (x : Head). Some x) c.next_head.ensures.kept ∙ sym sealed in
    rw (← c.self.view_is) (inl (record {
      going = going;
      home = home;
      last = c.self.invariant.stored.last_version going;
      halt_is = c.halt-version.ensures.version;
      state = c.halt-version.ensures.state;
      flight = refl;
      pins = refl;
      base = refl;
      journal = c.halt-version.ensures.journal ∙ ap (λ (n : ℕ). i.journal.items ++ halt_line n i.floor ∷ []) (sym c.halt-version.ensures.version);
      floor = refl;
      readings = refl;
      image = keeps_from (λ a b. KeepsFiles a b × AreFinished i.levels.sets b) numbers contents old mid new (λ a b p. p.0) c.in-Ok.ensures.ok done;
      levels = inl (refl, refl, ap frozen_at same);
      cause = rose_since (g.S.Store.count i.store) (g.S.Store.count c.finish_all.new.store) (g.S.Store.count c.swap.new.store) c.in-Ok.ensures.count (c.in-NotSwapped.ensures.head_cause refl);
    }))

pub invariant_of-self-in-NotDropped : goal.invariant_of-self-in-NotDropped
invariant_of-self-in-NotDropped g c =
    let i = c.self.inside in
    let f = c.args.frozen.now in
    let was : CoreState = seen g.S.Store.told g.S.Store.count g.C.Clock.readings c.args.self.now in
    let contents = map g.S.Writer.Writer.written c.args.files in
    let old = g.S.Store.told i.store in
    let going : i.tables.state.halt ≡ None = ap (λ k. k.state.halt) c.self.view_is ∙ c.requires.going in
    let home = ap (λ k. k.flight) c.self.view_is ∙ c.requires.home in
    let h = c.in-Some.head in
    let sealed : i.sealed ≡ Some h = c.in-Some.is in
    let over : IsOver i.tables.state i.levels i.committed h f was = record {
      out = c.requires.out;
      state = ap (λ k. k.state) (sym c.self.view_is);
      levels = ap (λ k. k.levels) (sym c.self.view_is);
      at = ap (λ k. k.frozen_at) (sym c.self.view_is) ∙ ap frozen_at sealed;
    } in
    let mid = g.S.Store.told c.finish_all.new.store in
    let new = g.S.Store.told c.swap.new.store in
    let numbers = c.in-Ok.numbers.items in
    let sets = c.in-Ok-next_head.next.sets.items in
    let bytes = c.in-Ok-next_head.next.bytes in
    let have : HaveFiles old f contents = subst (λ k. HaveFiles (g.S.Store.told k.store) f contents) (sym c.self.view_is) c.requires.files in
    let count : length numbers ≡ length f.ranges = count_is old f contents (length numbers) have (c.in-Ok.ensures.number ∙ sym (map_count g.S.Writer.Writer.written c.args.files)) in
    let next : IsNextHead i.levels h f.ranges numbers sets bytes = subst (λ (ns : List ℕ). IsNextHead i.levels h f.ranges ns sets bytes) c.as_slice.ensures.value c.in-Ok-next_head.ensures.ok in
    let ready = ready_told i.tables.state i.levels i.committed i.sealed h i.log f was numbers contents sets bytes old mid c.self.invariant.stored going sealed over have c.in-Ok.ensures.ok next in
    let version : f.version ≡ h.version = out_version i.tables.state i.levels i.committed h f was over in
    let swap = subst (λ (bs : List ℕ). Becomes (after_failed_drop bs (h.first_log - 1)) mid new) c.as_slice-2.ensures (c.in-NotDropped.ensures.not_dropped refl) in
    let done = not_dropped_told i.tables.state i.levels i.committed i.sealed h i.log f was numbers contents sets bytes mid new ready swap in
    let levels = levels_now i.levels c.install.new.self h f.ranges numbers sets bytes c.install.ensures next in
    kept_halted new i.tables.state c.halt-version-in-NotDropped.new.tables.state (installed f.ranges numbers h.edge i.levels) c.install.new.self f.version None i.log i.floor c.halt-version-in-NotDropped.new.journal.spare c.halt-version-in-NotDropped.ensures.state levels c.self.invariant.last
    (placed_halted i.tables.state i.levels i.committed i.sealed h i.log f was numbers contents sets bytes old mid new i.floor c.self.invariant.stored sealed over next version c.in-Ok.ensures.ok done)

pub returns-in-NotDropped-clause-ends : goal.returns-in-NotDropped-clause-ends
returns-in-NotDropped-clause-ends g c =
    let i = c.self.inside in
    let f = c.args.frozen.now in
    let was : CoreState = seen g.S.Store.told g.S.Store.count g.C.Clock.readings c.args.self.now in
    let contents = map g.S.Writer.Writer.written c.args.files in
    let old = g.S.Store.told i.store in
    let going : i.tables.state.halt ≡ None = ap (λ k. k.state.halt) c.self.view_is ∙ c.requires.going in
    let home = ap (λ k. k.flight) c.self.view_is ∙ c.requires.home in
    let h = c.in-Some.head in
    let sealed : i.sealed ≡ Some h = c.in-Some.is in
    let over : IsOver i.tables.state i.levels i.committed h f was = record {
      out = c.requires.out;
      state = ap (λ k. k.state) (sym c.self.view_is);
      levels = ap (λ k. k.levels) (sym c.self.view_is);
      at = ap (λ k. k.frozen_at) (sym c.self.view_is) ∙ ap frozen_at sealed;
    } in
    let mid = g.S.Store.told c.finish_all.new.store in
    let new = g.S.Store.told c.swap.new.store in
    let numbers = c.in-Ok.numbers.items in
    let sets = c.in-Ok-next_head.next.sets.items in
    let bytes = c.in-Ok-next_head.next.bytes in
    let have : HaveFiles old f contents = subst (λ k. HaveFiles (g.S.Store.told k.store) f contents) (sym c.self.view_is) c.requires.files in
    let count : length numbers ≡ length f.ranges = count_is old f contents (length numbers) have (c.in-Ok.ensures.number ∙ sym (map_count g.S.Writer.Writer.written c.args.files)) in
    let next : IsNextHead i.levels h f.ranges numbers sets bytes = subst (λ (ns : List ℕ). IsNextHead i.levels h f.ranges ns sets bytes) c.as_slice.ensures.value c.in-Ok-next_head.ensures.ok in
    let ready = ready_told i.tables.state i.levels i.committed i.sealed h i.log f was numbers contents sets bytes old mid c.self.invariant.stored going sealed over have c.in-Ok.ensures.ok next in
    let version : f.version ≡ h.version = out_version i.tables.state i.levels i.committed h f was over in
    let swap = subst (λ (bs : List ℕ). Becomes (after_failed_drop bs (h.first_log - 1)) mid new) c.as_slice-2.ensures (c.in-NotDropped.ensures.not_dropped refl) in
    let done = not_dropped_told i.tables.state i.levels i.committed i.sealed h i.log f was numbers contents sets bytes mid new ready swap in
    let levels = levels_now i.levels c.install.new.self h f.ranges numbers sets bytes c.install.ensures next in
    rw (← c.self.view_is) (inl (record {
      going = going;
      home = home;
      last = c.self.invariant.stored.last_version going;
      halt_is = c.halt-version-in-NotDropped.ensures.version;
      state = c.halt-version-in-NotDropped.ensures.state;
      flight = refl;
      pins = refl;
      base = refl;
      journal = c.halt-version-in-NotDropped.ensures.journal ∙ ap (λ (n : ℕ). i.journal.items ++ halt_line n i.floor ∷ []) (sym c.halt-version-in-NotDropped.ensures.version);
      floor = refl;
      readings = refl;
      image = keeps_from (IsReplaced f numbers (sets_from h.edge (with_files f.ranges numbers i.levels.sets))) numbers contents old mid new (λ a b p. p.keeps) c.in-Ok.ensures.ok done;
      levels = inr (record { numbers = numbers; count_is = count; at = record { version = h.version; edge = h.edge; tables = length h.tables }; at_is = ap frozen_at sealed; levels = levels; committed = refl; frozen_at = refl; files = files_from f numbers contents (sets_from h.edge (with_files f.ranges numbers i.levels.sets)) old mid new c.in-Ok.ensures.ok done });
      cause = rose_since (g.S.Store.count i.store) (g.S.Store.count c.finish_all.new.store) (g.S.Store.count c.swap.new.store) c.in-Ok.ensures.count (c.in-NotDropped.ensures.log_cause refl);
    }))

pub invariant_of-self-in-Done : goal.invariant_of-self-in-Done
invariant_of-self-in-Done g c =
    let i = c.self.inside in
    let f = c.args.frozen.now in
    let was : CoreState = seen g.S.Store.told g.S.Store.count g.C.Clock.readings c.args.self.now in
    let contents = map g.S.Writer.Writer.written c.args.files in
    let old = g.S.Store.told i.store in
    let going : i.tables.state.halt ≡ None = ap (λ k. k.state.halt) c.self.view_is ∙ c.requires.going in
    let home = ap (λ k. k.flight) c.self.view_is ∙ c.requires.home in
    let h = c.in-Some.head in
    let sealed : i.sealed ≡ Some h = c.in-Some.is in
    let over : IsOver i.tables.state i.levels i.committed h f was = record {
      out = c.requires.out;
      state = ap (λ k. k.state) (sym c.self.view_is);
      levels = ap (λ k. k.levels) (sym c.self.view_is);
      at = ap (λ k. k.frozen_at) (sym c.self.view_is) ∙ ap frozen_at sealed;
    } in
    let mid = g.S.Store.told c.finish_all.new.store in
    let new = g.S.Store.told c.swap.new.store in
    let numbers = c.in-Ok.numbers.items in
    let sets = c.in-Ok-next_head.next.sets.items in
    let bytes = c.in-Ok-next_head.next.bytes in
    let have : HaveFiles old f contents = subst (λ k. HaveFiles (g.S.Store.told k.store) f contents) (sym c.self.view_is) c.requires.files in
    let count : length numbers ≡ length f.ranges = count_is old f contents (length numbers) have (c.in-Ok.ensures.number ∙ sym (map_count g.S.Writer.Writer.written c.args.files)) in
    let next : IsNextHead i.levels h f.ranges numbers sets bytes = subst (λ (ns : List ℕ). IsNextHead i.levels h f.ranges ns sets bytes) c.as_slice.ensures.value c.in-Ok-next_head.ensures.ok in
    let ready = ready_told i.tables.state i.levels i.committed i.sealed h i.log f was numbers contents sets bytes old mid c.self.invariant.stored going sealed over have c.in-Ok.ensures.ok next in
    let version : f.version ≡ h.version = out_version i.tables.state i.levels i.committed h f was over in
    let swap = subst (λ (bs : List ℕ). Becomes (after_swaps bs (h.first_log - 1)) mid new) c.as_slice-2.ensures (c.in-Done.ensures.done refl) in
    let done = done_told i.tables.state i.levels i.committed i.sealed h i.log f was numbers contents sets bytes mid new version ready swap in
    let levels = levels_now i.levels c.install-in-Done.new.self h f.ranges numbers sets bytes c.install-in-Done.ensures next in
    record {
      since = c.self.invariant.since;
      last = c.self.invariant.last;
      stored = subst (λ (x : Levels). IsStored new i.tables.state x f.version None i.log) (sym levels) (placed_now i.tables.state i.levels i.committed i.sealed h i.log f was numbers contents sets bytes old mid new c.self.invariant.stored sealed over next version c.in-Ok.ensures.ok done);
      room = c.self.invariant.room;
    }

pub returns-clause-ends : goal.returns-clause-ends
returns-clause-ends g c =
    let i = c.self.inside in
    let f = c.args.frozen.now in
    let was : CoreState = seen g.S.Store.told g.S.Store.count g.C.Clock.readings c.args.self.now in
    let contents = map g.S.Writer.Writer.written c.args.files in
    let old = g.S.Store.told i.store in
    let going : i.tables.state.halt ≡ None = ap (λ k. k.state.halt) c.self.view_is ∙ c.requires.going in
    let home = ap (λ k. k.flight) c.self.view_is ∙ c.requires.home in
    let h = c.in-Some.head in
    let sealed : i.sealed ≡ Some h = c.in-Some.is in
    let over : IsOver i.tables.state i.levels i.committed h f was = record {
      out = c.requires.out;
      state = ap (λ k. k.state) (sym c.self.view_is);
      levels = ap (λ k. k.levels) (sym c.self.view_is);
      at = ap (λ k. k.frozen_at) (sym c.self.view_is) ∙ ap frozen_at sealed;
    } in
    let mid = g.S.Store.told c.finish_all.new.store in
    let new = g.S.Store.told c.swap.new.store in
    let numbers = c.in-Ok.numbers.items in
    let sets = c.in-Ok-next_head.next.sets.items in
    let bytes = c.in-Ok-next_head.next.bytes in
    let have : HaveFiles old f contents = subst (λ k. HaveFiles (g.S.Store.told k.store) f contents) (sym c.self.view_is) c.requires.files in
    let count : length numbers ≡ length f.ranges = count_is old f contents (length numbers) have (c.in-Ok.ensures.number ∙ sym (map_count g.S.Writer.Writer.written c.args.files)) in
    let next : IsNextHead i.levels h f.ranges numbers sets bytes = subst (λ (ns : List ℕ). IsNextHead i.levels h f.ranges ns sets bytes) c.as_slice.ensures.value c.in-Ok-next_head.ensures.ok in
    let ready = ready_told i.tables.state i.levels i.committed i.sealed h i.log f was numbers contents sets bytes old mid c.self.invariant.stored going sealed over have c.in-Ok.ensures.ok next in
    let version : f.version ≡ h.version = out_version i.tables.state i.levels i.committed h f was over in
    let swap = subst (λ (bs : List ℕ). Becomes (after_swaps bs (h.first_log - 1)) mid new) c.as_slice-2.ensures (c.in-Done.ensures.done refl) in
    let done = done_told i.tables.state i.levels i.committed i.sealed h i.log f was numbers contents sets bytes mid new version ready swap in
    let levels = levels_now i.levels c.install-in-Done.new.self h f.ranges numbers sets bytes c.install-in-Done.ensures next in
    rw (← c.self.view_is) (record {
      going = going;
      home = home;
      version_is = refl;
      numbers = numbers;
      count_is = count;
      at = record { version = h.version; edge = h.edge; tables = length h.tables };
      at_is = ap frozen_at sealed;
      levels = levels;
      committed = refl;
      frozen_at = refl;
      flight = refl;
      state = refl;
      pins = refl;
      base = refl;
      journal = refl;
      floor = refl;
      readings = refl;
      image = installed_from f numbers contents (sets_from h.edge (with_files f.ranges numbers i.levels.sets)) (λ (image : Image). IsActive image i.log i.tables.state (installed f.ranges numbers h.edge i.levels) h.version None) old mid new c.in-Ok.ensures.ok done;
    })
