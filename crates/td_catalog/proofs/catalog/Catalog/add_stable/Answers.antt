use Rattle.std.proofs.Common.{◌≡◌, ◌∙◌, ◌++◌, [], ◌∷◌, map, length, ap, sym, subst, arith}
use Rattle.std.specs.Str.{bytes_eq}
use Rattle.std.proofs.lemmas.List.{length-map}
use Rattle.indexmap.specs.IndexMap.{values}
use Rattle.td_model.specs.Catalog.{stable_named}
use Rattle.td_verdict.specs.Valid.{IsValid}
use Rattle.td_catalog.specs.Inside.{catalog_of}
use Rattle.td_catalog.specs.Tables.{table_of}
use Rattle.td_catalog.specs.Groups.{AreGroups}
use Rattle.td_catalog.proofs.Children.{stable_more}
use Rattle.td_catalog.proofs.Found.{stable-absent}
use Rattle.td_catalog.proofs.Growth.{appended, pushed, values-pushed, length-pushed, parents-stay}
use Rattle.td_catalog.proofs.catalog.Catalog.add_stable.Goals as goal

-- the new supertable goes last
last : (c : goal.Joined-unwrap) → c.insert.new.self.entries ≡ c.self.inside.stables.entries ++ (c.args.key, c.args.def) ∷ []
last c =
    appended (λ x y. bytes_eq x.items y.items) c.self.inside.stables c.insert.new.self c.args.key c.args.def c.insert.result c.unwrap.result c.unwrap.ensures c.insert.ensures.entries
    (stable-absent c.self.inside c.self.invariant c.args.def.name c.args.key.items c.requires.key (ap (λ k. stable_named c.args.def.name k.catalog) c.self.view_is ∙ c.requires.free))

values_last : (c : goal.Joined-unwrap) → values c.insert.new.self ≡ values c.self.inside.stables ++ c.args.def ∷ []
values_last c = values-pushed c.self.inside.stables.entries c.insert.new.self.entries c.args.key c.args.def (last c)

same : (c : goal.Joined-unwrap) → record (catalog_of c.self.inside) { stables = values c.insert.new.self } ≡ record c.args.self.now.catalog { stables = c.args.self.now.catalog.stables ++ c.args.def ∷ [] }
same c =
    ap (λ xs. record (catalog_of c.self.inside) { stables = xs }) (values_last c)
    ∙ ap (λ k. record k.catalog { stables = k.catalog.stables ++ c.args.def ∷ [] }) c.self.view_is

pub invariant_of-self : goal.invariant_of-self
invariant_of-self c =
    let a = c.self.inside in
    let h = c.self.invariant in
    let old_count : length (values a.stables) ≡ length c.args.self.now.catalog.stables = ap (λ k. length k.catalog.stables) c.self.view_is in
    let entry_count : length (values a.stables) ≡ length a.stables.entries = length-map a.stables.entries (λ e. e.1) in
    let more = length-pushed (values a.stables) (values c.insert.new.self) c.args.def (values_last c) in
    let more_entries = length-pushed a.stables.entries c.insert.new.self.entries (c.args.key, c.args.def) (last c) in
    record {
      stables = pushed (λ e. e.0.items ≡ e.1.name) a.stables.entries c.insert.new.self.entries (c.args.key, c.args.def) (last c) h.stables c.requires.key;
      tables = h.tables;
      parents = parents-stay (length (values a.stables)) (length (values c.insert.new.self)) (values a.tables) (omega arith) h.parents;
      streams = h.streams;
      targets = h.targets;
      stable_count = omega (arith, c.requires.count);
      table_count = h.table_count;
      stream_count = h.stream_count;
      next_fits = h.next_fits;
      groups = subst (λ ls. AreGroups (length (values c.insert.new.self)) (map table_of (values a.tables)) ls) (sym c.add_group.ensures) (subst (λ n. AreGroups n (map table_of (values a.tables)) (a.groups.lists ++ [] ∷ [])) (sym more) (stable_more (length (values a.stables)) (values a.tables) a.groups.lists h.parents h.groups));
      valid = subst IsValid (sym (same c)) c.requires.valid;
    }

pub returns : goal.returns
returns c = same c
