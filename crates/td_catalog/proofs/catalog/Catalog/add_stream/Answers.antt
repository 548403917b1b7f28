use Rattle.std.proofs.Common.{◌≡◌, ◌∙◌, ◌+◌, ◌++◌, [], ◌∷◌, ap, sym, subst, refl, arith}
use Rattle.std.specs.Str.{bytes_eq}
use Rattle.td_model.specs.declared.catalog.StreamEntry.{StreamEntry}
use Rattle.td_model.specs.Catalog.{stream_named, target_named}
use Rattle.indexmap.specs.IndexMap.{values}
use Rattle.td_verdict.specs.Valid.{IsValid}
use Rattle.td_catalog.specs.Inside.{catalog_of, AreTargets}
use Rattle.td_catalog.proofs.Found.{stream-absent, target-absent}
use Rattle.td_catalog.proofs.Growth.{appended, pushed, values-pushed, length-pushed, targets-pushed}
use Rattle.td_catalog.proofs.catalog.Catalog.add_stream.Goals as goal

abbrev entry : goal.After-unwrap-2 → StreamEntry
entry c = record { number = c.self.inside.next_stream; def = c.args.def }

-- the new stream goes last, and so does its target
last : (c : goal.After-unwrap-2) → c.insert.new.self.entries ≡ c.self.inside.streams.entries ++ (c.args.key, entry c) ∷ []
last c =
    appended (λ x y. bytes_eq x.items y.items) c.self.inside.streams c.insert.new.self c.args.key (entry c) c.insert.result c.unwrap.result c.unwrap.ensures c.insert.ensures.entries
    (stream-absent c.self.inside c.self.invariant c.args.def.name c.args.key.items c.requires.key (ap (λ k. stream_named c.args.def.name k.catalog) c.self.view_is ∙ c.requires.free))

last_target : (c : goal.After-unwrap-2) → c.insert-2.new.self.entries ≡ c.self.inside.targets.entries ++ (c.args.target, c.self.inside.next_stream) ∷ []
last_target c =
    appended (λ x y. bytes_eq x.items y.items) c.self.inside.targets c.insert-2.new.self c.args.target c.self.inside.next_stream c.insert-2.result c.unwrap-2.result c.unwrap-2.ensures c.insert-2.ensures.entries
    (target-absent c.self.inside c.self.invariant c.args.def.target c.args.target.items c.requires.target (ap (λ k. target_named c.args.def.target k.catalog) c.self.view_is ∙ c.requires.target_free))

same : (c : goal.After-unwrap-2)
    → record (catalog_of c.self.inside) { streams = values c.insert.new.self; next_stream = c.self.inside.next_stream + 1 }
    ≡ record c.args.self.now.catalog { streams = c.args.self.now.catalog.streams ++ record { number = c.args.self.now.catalog.next_stream; def = c.args.def } ∷ []; next_stream = c.args.self.now.catalog.next_stream + 1 }
same c =
    ap (λ xs. record (catalog_of c.self.inside) { streams = xs; next_stream = c.self.inside.next_stream + 1 }) (values-pushed c.self.inside.streams.entries c.insert.new.self.entries c.args.key (entry c) (last c))
    ∙ ap (λ k. record k.catalog { streams = k.catalog.streams ++ record { number = k.catalog.next_stream; def = c.args.def } ∷ []; next_stream = k.catalog.next_stream + 1 }) c.self.view_is

pub invariant_of-self : goal.invariant_of-self
invariant_of-self c =
    let a = c.self.inside in
    let h = c.self.invariant in
    let more = length-pushed a.streams.entries c.insert.new.self.entries (c.args.key, entry c) (last c) in
    let next : a.next_stream ≡ c.args.self.now.catalog.next_stream = ap (λ k. k.catalog.next_stream) c.self.view_is in
    record {
      stables = h.stables;
      tables = h.tables;
      parents = h.parents;
      streams = pushed (λ e. e.0.items ≡ e.1.def.name) a.streams.entries c.insert.new.self.entries (c.args.key, entry c) (last c) h.streams c.requires.key;
      targets =
          subst (λ ts. AreTargets (λ k. k.items) c.insert.new.self.entries ts) (sym (last_target c))
          (subst (λ es. AreTargets (λ k. k.items) es (a.targets.entries ++ (c.args.target, a.next_stream) ∷ [])) (sym (last c))
          (targets-pushed (λ k. k.items) a.streams.entries a.targets.entries (c.args.key, entry c) (c.args.target, a.next_stream) h.targets c.requires.target refl));
      stable_count = h.stable_count;
      table_count = h.table_count;
      stream_count = omega (arith, h.stream_count);
      next_fits = omega (arith, c.requires.count);
      groups = h.groups;
      valid = subst IsValid (sym (same c)) c.requires.valid;
    }

pub returns : goal.returns
returns c = same c
