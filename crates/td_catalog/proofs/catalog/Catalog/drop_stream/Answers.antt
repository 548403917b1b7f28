use Rattle.std.proofs.Common.{◌≡◌, sym, subst, ◌∙◌, filter, not, nat_eq, ap, rules, arith}
use Rattle.std.proofs.lemmas.List.Elements.{All-filter}
use Rattle.indexmap.proofs.CallerLemmas.{filter-RetainsPairs}
use Rattle.std.specs.Map.{values_of}
use Rattle.td_model.specs.declared.catalog.StreamEntry.{StreamEntry}
use Rattle.td_model.specs.declared.history.What.TheVariants as what
use Rattle.td_model.specs.Catalog.{with_what}
use Rattle.td_verdict.specs.Valid.{IsValid}
use Rattle.td_catalog.proofs.Valid.{without_stream}
use Rattle.td_catalog.specs.Inside.{catalog_of}
use Rattle.td_catalog.proofs.Fewer.{values-filter, targets-filter}
use Rattle.td_catalog.proofs.catalog.Catalog.drop_stream.Goals as goal

-- the entries of the other streams stay
streams_kept : (c : goal.After-retain-2) → c.retain.new.self.entries ≡ filter (λ e. not (nat_eq e.1.number c.args.number)) c.self.inside.streams.entries
streams_kept c = filter-RetainsPairs _ _ _ (λ k v b w g call. search rules) _ _ c.retain.ensures.filtered

targets_kept : (c : goal.After-retain-2) → c.retain-2.new.self.entries ≡ filter (λ e. not (nat_eq e.1 c.args.number)) c.self.inside.targets.entries
targets_kept c = filter-RetainsPairs _ _ _ (λ k v b w g call. search rules) _ _ c.retain-2.ensures.filtered

streams_are : (c : goal.After-retain-2) → record (catalog_of c.self.inside) { streams = values_of c.retain.new.self.entries } ≡ with_what (what.DropStream c.args.number) (catalog_of c.self.inside)
streams_are c =
    let passes = λ (e : StreamEntry). not (nat_eq e.number c.args.number) in
    ap (λ xs. record (catalog_of c.self.inside) { streams = xs }) (ap values_of (streams_kept c) ∙ values-filter passes c.self.inside.streams.entries)

pub invariant_of-self : goal.invariant_of-self
invariant_of-self c =
    let a = c.self.inside in
    let h = c.self.invariant in
    record {
      stables = h.stables;
      tables = h.tables;
      parents = h.parents;
      streams = rw (streams_kept c) (All-filter (λ e. not (nat_eq e.1.number c.args.number)) (λ e. e.0.items ≡ e.1.def.name) a.streams.entries h.streams);
      targets = rw (streams_kept c, targets_kept c) (targets-filter (λ k. k.items) (λ n. not (nat_eq n c.args.number)) a.streams.entries a.targets.entries h.targets);
      stable_count = h.stable_count;
      table_count = h.table_count;
      stream_count = omega (arith, c.retain.ensures.bound, h.stream_count);
      next_fits = h.next_fits;
      groups = h.groups;
      valid = subst IsValid (sym (streams_are c)) (without_stream (catalog_of a) c.args.number h.valid);
    }

pub returns : goal.returns
returns c =
    let passes = λ (e : StreamEntry). not (nat_eq e.number c.args.number) in
    streams_are c ∙ ap (λ k. record k.catalog { streams = filter passes k.catalog.streams }) c.self.view_is
