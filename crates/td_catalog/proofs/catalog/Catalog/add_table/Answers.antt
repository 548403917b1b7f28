use Rattle.std.proofs.Common.{◌≡◌, ◌∙◌, ◌++◌, ◌+◌, [], ◌∷◌, length, map, ap, sym, subst, arith}
use Rattle.std.specs.Str.{bytes_eq}
use Rattle.std.proofs.lemmas.List.{length-map, map_push}
use Rattle.indexmap.specs.IndexMap.{values}
use Rattle.td_model.specs.Catalog.{table_named}
use Rattle.td_catalog.specs.Tables.{table_of, HasParent}
use Rattle.td_verdict.specs.Valid.{IsValid}
use Rattle.td_catalog.specs.Inside.{catalog_of}
use Rattle.td_catalog.specs.Groups.{AreGroups, with_child}
use Rattle.td_catalog.proofs.Children.{table_more, ForSome-numbered}
use Rattle.td_catalog.proofs.Found.{table-absent}
use Rattle.td_catalog.proofs.Growth.{appended, pushed, values-pushed, length-pushed}
use Rattle.td_catalog.proofs.catalog.Catalog.add_table.Goals as goal

-- the new table goes last
last : (c : goal.Joined-unwrap) → c.insert.new.self.entries ≡ c.self.inside.tables.entries ++ (c.args.key, c.args.table) ∷ []
last c =
    appended (λ x y. bytes_eq x.items y.items) c.self.inside.tables c.insert.new.self c.args.key c.args.table c.insert.result c.unwrap.result c.unwrap.ensures c.insert.ensures.entries
    (table-absent c.self.inside c.self.invariant c.args.table.name c.args.key.items c.requires.key (ap (λ k. table_named c.args.table.name k.catalog) c.self.view_is ∙ c.requires.free))

values_last : (c : goal.Joined-unwrap) → values c.insert.new.self ≡ values c.self.inside.tables ++ c.args.table ∷ []
values_last c = values-pushed c.self.inside.tables.entries c.insert.new.self.entries c.args.key c.args.table (last c)

same : (c : goal.Joined-unwrap) → record (catalog_of c.self.inside) { tables = map table_of (values c.insert.new.self) } ≡ record c.args.self.now.catalog { tables = c.args.self.now.catalog.tables ++ table_of c.args.table ∷ [] }
same c =
    ap (λ xs. record (catalog_of c.self.inside) { tables = map table_of xs }) (values_last c)
    ∙ ap (λ xs. record (catalog_of c.self.inside) { tables = xs }) (map_push table_of (values c.self.inside.tables) c.args.table)
    ∙ ap (λ k. record k.catalog { tables = k.catalog.tables ++ table_of c.args.table ∷ [] }) c.self.view_is

pub invariant_of-self : goal.invariant_of-self
invariant_of-self c =
    let a = c.self.inside in
    let h = c.self.invariant in
    let old_count : length (map table_of (values a.tables)) ≡ length c.args.self.now.catalog.tables = ap (λ k. length k.catalog.tables) c.self.view_is in
    let table_count : length (map table_of (values a.tables)) ≡ length (values a.tables) = length-map (values a.tables) table_of in
    let entry_count : length (values a.tables) ≡ length a.tables.entries = length-map a.tables.entries (λ e. e.1) in
    let more_entries = length-pushed a.tables.entries c.insert.new.self.entries (c.args.key, c.args.table) (last c) in
    let parent = subst (λ n. HasParent n c.args.table c.args.table.parent) (sym (ap (λ k. length k.catalog.stables) c.self.view_is)) c.requires.parent in
    let tables : map table_of (values c.insert.new.self) ≡ map table_of (values a.tables) ++ table_of c.args.table ∷ [] = ap (map table_of) (values_last c) ∙ map_push table_of (values a.tables) c.args.table in
    let number : c.len.result + 1 ≡ length (map table_of (values a.tables)) + 1 = ap (λ n. n + 1) (c.len.ensures.len ∙ sym entry_count ∙ sym table_count) in
    let lists : c.add.new.self.lists ≡ with_child c.args.table.parent (length (map table_of (values a.tables)) + 1) a.groups.lists = c.add.ensures ∙ ap (λ n. with_child c.args.table.parent n a.groups.lists) number in
    record {
      stables = h.stables;
      tables = pushed (λ e. e.0.items ≡ e.1.name) a.tables.entries c.insert.new.self.entries (c.args.key, c.args.table) (last c) h.tables c.requires.key;
      parents = pushed (λ t. HasParent (length (values a.stables)) t t.parent) (values a.tables) (values c.insert.new.self) c.args.table (values_last c) h.parents parent;
      streams = h.streams;
      targets = h.targets;
      stable_count = h.stable_count;
      table_count = omega (arith, c.requires.count);
      stream_count = h.stream_count;
      next_fits = h.next_fits;
      groups =
          subst (λ ts. AreGroups (length (values a.stables)) ts c.add.new.self.lists) (sym tables)
          (subst (λ ls. AreGroups (length (values a.stables)) (map table_of (values a.tables) ++ table_of c.args.table ∷ []) ls) (sym lists)
          (table_more (length (values a.stables)) (map table_of (values a.tables)) (table_of c.args.table) a.groups.lists (ForSome-numbered (length (values a.stables)) c.args.table c.args.table.parent parent) h.groups));
      valid = subst IsValid (sym (same c)) c.requires.valid;
    }

pub returns : goal.returns
returns c = same c
