-- The grammar of statements as it is written and the one by which texts are read derive the same trees.
use Rattle.std.proofs.Common.{ℕ, List, Option, None, Some, inl, inr, refl, ap, ◌∙◌}
use Rattle.td_cols.specs.declared.kinds.Kind.{Kind}
use Rattle.td_model.specs.declared.catalog.Column.{Column}
use Rattle.td_model.specs.declared.language.Lit.{Lit}
use Rattle.td_model.specs.declared.language.Stmt.{Stmt}
use Rattle.td_model.specs.declared.language.Stmt.TheVariants as stmt
use Rattle.td_grammar.specs.declared.lexemes.Lexeme.{Lexeme}
use Rattle.td_grammar.specs.Grammar.{Derives, valued, both, maybe, either}
use Rattle.td_grammar.specs.declared.kinds.TheConstants.{AS, CREATE, OPEN, TAGS}
use Rattle.td_grammar.specs.Words.{name, word, ◌▷◌}
use Rattle.td_clauses.specs.Productions.{inside, lits, query}
use Rattle.td_parse.specs.declared.drafts.Body.TheVariants as body
use Rattle.td_parse.specs.declared.drafts.StreamOption.{StreamOption}
use Rattle.td_parse.specs.Productions.{column_kind, column, column_list, columns, later_tag_kind, tag_kind, tag, tag_list, tags, stable, own_columns, of_stable, table_body, body_of, table_of, table, group, further_group, groups, chosen_columns, insert, range_of, delete, a_trigger, stream_option, options, stream, create, drop_stream, open_cursor, fetch, close_cursor, step, plain_command, maintenance_command, cursor_command, query_or_command, a_statement, statement_text}
use Rattle.td_clauses.specs.Written.{written_lits, written_query}
use Rattle.td_parse.specs.Written.{written_type, written_col, written_cols, written_tag_type, written_tag, written_tags, written_option, written_options, written_stable, written_table, written_sub, written_insert, written_delete, written_stream, written_cursor, written_maintenance, written_statement, written_text}
use Rattle.td_clauses.proofs.SameTrees.{Into, kept, chain, in_either, in_valued, in_both, in_second, in_maybe, in_loop, in_listed, in_comma_list, in_inside, apart, together, lits_in, lits_out, query_in, query_out}

-- columns and tags
type_in : {E : Type 0} → Into (column_kind {E = E}) written_type
unfolding column_kind written_type
type_in {E} = record { into = go }
  where
    go : (e : E) (ts : List Lexeme) (a : Kind) → Derives e (column_kind {E = E}) ts a → Derives e (written_type {E = E}) ts a
    go e ts a (inl d) = inl d
    go e ts a (inr (inl d)) = inr (inl d)
    go e ts a (inr (inr (inl d))) = inr (inr (inr d))
    go e ts a (inr (inr (inr d))) = inr (inr (inl d))

type_out : {E : Type 0} → Into (written_type {E = E}) column_kind
unfolding column_kind written_type
type_out {E} = record { into = go }
  where
    go : (e : E) (ts : List Lexeme) (a : Kind) → Derives e (written_type {E = E}) ts a → Derives e (column_kind {E = E}) ts a
    go e ts a (inl d) = inl d
    go e ts a (inr (inl d)) = inr (inl d)
    go e ts a (inr (inr (inl d))) = inr (inr (inr d))
    go e ts a (inr (inr (inr d))) = inr (inr (inl d))

cols_in : {E : Type 0} → Into (column_list {E = E}) written_cols
unfolding column_list column written_cols written_col
cols_in = in_comma_list (in_second type_in)

cols_out : {E : Type 0} → Into (written_cols {E = E}) column_list
unfolding column_list column written_cols written_col
cols_out = in_comma_list (in_second type_out)

tag_type_in : {E : Type 0} → Into (tag_kind {E = E}) written_tag_type
unfolding tag_kind later_tag_kind written_tag_type
tag_type_in {E} = record { into = go }
  where
    go : (e : E) (ts : List Lexeme) (a : Kind) → Derives e (tag_kind {E = E}) ts a → Derives e (written_tag_type {E = E}) ts a
    go e ts a (inl d) = inl d
    go e ts a (inr (inl d)) = inr (inl d)
    go e ts a (inr (inr (inl d))) = inr (inr (inr (inr d)))
    go e ts a (inr (inr (inr (inl d)))) = inr (inr (inr (inl d)))
    go e ts a (inr (inr (inr (inr d)))) = inr (inr (inl d))

tag_type_out : {E : Type 0} → Into (written_tag_type {E = E}) tag_kind
unfolding tag_kind later_tag_kind written_tag_type
tag_type_out {E} = record { into = go }
  where
    go : (e : E) (ts : List Lexeme) (a : Kind) → Derives e (written_tag_type {E = E}) ts a → Derives e (tag_kind {E = E}) ts a
    go e ts a (inl d) = inl d
    go e ts a (inr (inl d)) = inr (inl d)
    go e ts a (inr (inr (inl d))) = inr (inr (inr (inr d)))
    go e ts a (inr (inr (inr (inl d)))) = inr (inr (inr (inl d)))
    go e ts a (inr (inr (inr (inr d)))) = inr (inr (inl d))

tags_in : {E : Type 0} → Into (tag_list {E = E}) written_tags
unfolding tag_list tag written_tags written_tag
tags_in = in_comma_list (in_second tag_type_in)

tags_out : {E : Type 0} → Into (written_tags {E = E}) tag_list
unfolding tag_list tag written_tags written_tag
tags_out = in_comma_list (in_second tag_type_out)

-- options of a stream
option_in : {E : Type 0} → Into (stream_option {E = E}) written_option
unfolding stream_option a_trigger written_option
option_in {E} = record { into = go }
  where
    go : (e : E) (ts : List Lexeme) (a : StreamOption) → Derives e (stream_option {E = E}) ts a → Derives e (written_option {E = E}) ts a
    go e ts a (inl (b, (x, y, u, c, parts, d, inl f, w), v)) = inl (b, (x, y, u, c, parts, d, f, w), v)
    go e ts a (inl (b, (x, y, u, c, parts, d, inr (inl f), w), v)) = inr (inl (b, (x, y, u, c, parts, d, f, w), v))
    go e ts a (inl (b, (x, y, u, c, parts, d, inr (inr f), w), v)) = inr (inr (inl (b, (x, y, u, c, parts, d, f, w), v)))
    go e ts a (inr d) = inr (inr (inr d))

option_out : {E : Type 0} → Into (written_option {E = E}) stream_option
unfolding stream_option a_trigger written_option
option_out {E} = record { into = go }
  where
    go : (e : E) (ts : List Lexeme) (a : StreamOption) → Derives e (written_option {E = E}) ts a → Derives e (stream_option {E = E}) ts a
    go e ts a (inl (b, (x, y, u, c, parts, d, f, w), v)) = inl (b, (x, y, u, c, parts, d, inl f, w), v)
    go e ts a (inr (inl (b, (x, y, u, c, parts, d, f, w), v))) = inl (b, (x, y, u, c, parts, d, inr (inl f), w), v)
    go e ts a (inr (inr (inl (b, (x, y, u, c, parts, d, f, w), v)))) = inl (b, (x, y, u, c, parts, d, inr (inr f), w), v)
    go e ts a (inr (inr (inr d))) = inr d

-- what CREATE begins
stable_in : {E : Type 0} → Into (word {E = E} CREATE refl ▷ stable) written_stable
unfolding stable columns tags written_stable
stable_in = in_second (in_second (in_second (in_both (in_inside cols_in) (in_maybe (in_second (in_inside tags_in))))))

stable_out : {E : Type 0} → Into (written_stable {E = E}) (word CREATE refl ▷ stable)
unfolding stable columns tags written_stable
stable_out = in_second (in_second (in_second (in_both (in_inside cols_out) (in_maybe (in_second (in_inside tags_out))))))

stream_in : {E : Type 0} → Into (word {E = E} CREATE refl ▷ stream) written_stream
unfolding stream options written_stream written_options
stream_in = in_second (in_second (in_second (in_both (in_loop option_in) (in_second (in_second (in_second query_in))))))

stream_out : {E : Type 0} → Into (written_stream {E = E}) (word CREATE refl ▷ stream)
unfolding stream options written_stream written_options
stream_out = in_second (in_second (in_second (in_both (in_loop option_out) (in_second (in_second (in_second query_out))))))

table_in : {E : Type 0} → Into (word {E = E} CREATE refl ▷ table) (either written_table written_sub)
unfolding table table_body own_columns of_stable columns tags written_table written_sub
table_in {E} = record { into = go }
  where
    cols_inside : Into (inside {E = E} column_list) (inside written_cols)
    cols_inside = in_inside cols_in

    tags_inside : Into (maybe {E = E} None Some (word TAGS refl ▷ inside tag_list)) (maybe None Some (word TAGS refl ▷ inside written_tags))
    tags_inside = in_maybe (in_second (in_inside tags_in))

    lits_inside : Into (word {E = E} TAGS refl ▷ inside lits) (word TAGS refl ▷ inside written_lits)
    lits_inside = in_second (in_inside lits_in)

    go : (e : E) (ts : List Lexeme) (a : Stmt) → Derives e (word CREATE refl ▷ table) ts a → Derives e (either written_table written_sub) ts a
    go e ts a (x, y, u, b, parts, d, (p, q, w, c, cut, f, (r, s, n, body, more, named, inl (i, j, z, k, split, using, (l, m, st, lits_of, rest, stable_name, list, four), three), two), one), v) =
        inr (x, y, u, b, parts, d, (p, q, w, c, cut, f, (r, s, n, (st, lits_of), more, named, (i, j, z, (st, lits_of), split, using, (l, m, st, lits_of, rest, stable_name, lits_inside.into e m lits_of list, refl), refl), two ∙ ap (table_of n) (three ∙ four)), one), v)
    go e ts a (x, y, u, b, parts, d, (p, q, w, c, cut, f, (r, s, n, body, more, named, inr (i, j, cols, given, split, listed_cols, listed_tags, three), two), one), v) =
        inl (x, y, u, b, parts, d, (p, q, w, c, cut, f, (r, s, n, (cols, given), more, named, (i, j, cols, given, split, cols_inside.into e i cols listed_cols, tags_inside.into e j given listed_tags, refl), two ∙ ap (table_of n) three), one), v)

table_out : {E : Type 0} → Into (either {E = E} written_table written_sub) (word CREATE refl ▷ table)
unfolding table table_body own_columns of_stable columns tags written_table written_sub
table_out {E} = record { into = go }
  where
    cols_inside : Into (inside {E = E} written_cols) (inside column_list)
    cols_inside = in_inside cols_out

    tags_inside : Into (maybe {E = E} None Some (word TAGS refl ▷ inside written_tags)) (maybe None Some (word TAGS refl ▷ inside tag_list))
    tags_inside = in_maybe (in_second (in_inside tags_out))

    lits_inside : Into (word {E = E} TAGS refl ▷ inside written_lits) (word TAGS refl ▷ inside lits)
    lits_inside = in_second (in_inside lits_out)

    go : (e : E) (ts : List Lexeme) (a : Stmt) → Derives e (either written_table written_sub) ts a → Derives e (word CREATE refl ▷ table) ts a
    go e ts a (inr (x, y, u, b, parts, d, (p, q, w, c, cut, f, (r, s, n, pair, more, named, (i, j, z, inner, split, using, (l, m, st, lits_of, rest, stable_name, list, four), three), two), one), v)) =
        (x, y, u, b, parts, d, (p, q, w, c, cut, f, (r, s, n, body.Sub st lits_of, more, named, inl (i, j, z, body.Sub st lits_of, split, using, (l, m, st, lits_of, rest, stable_name, lits_inside.into e m lits_of list, refl), refl), two ∙ ap (λ (g : List ℕ × List Lit). stmt.MakeSub n g.0 g.1) (three ∙ four)), one), v)
    go e ts a (inl (x, y, u, b, parts, d, (p, q, w, c, cut, f, (r, s, n, pair, more, named, (i, j, cols, given, split, listed_cols, listed_tags, three), two), one), v)) =
        (x, y, u, b, parts, d, (p, q, w, c, cut, f, (r, s, n, body_of cols given, more, named, inr (i, j, cols, given, split, cols_inside.into e i cols listed_cols, tags_inside.into e j given listed_tags, refl), two ∙ ap (λ (g : List Column × Option (List Column)). table_of n (body_of g.0 g.1)) three), one), v)

create_in : {E : Type 0} → Into (create {E = E}) (either written_stable (either (either written_table written_sub) written_stream))
unfolding create
create_in = chain (apart _ _ _ _) (in_either stable_in (chain (apart _ _ _ _) (in_either table_in stream_in)))

create_out : {E : Type 0} → Into (either {E = E} written_stable (either (either written_table written_sub) written_stream)) create
unfolding create
create_out = chain (in_either stable_out (chain (in_either table_out stream_out) (together _ _ _ _))) (together _ _ _ _)

-- writes
insert_in : {E : Type 0} → Into (insert {E = E}) written_insert
unfolding insert chosen_columns groups further_group group written_insert
insert_in = in_second (in_second (in_second (in_second (in_second (in_listed (in_inside lits_in) (in_second (in_inside lits_in)))))))

insert_out : {E : Type 0} → Into (written_insert {E = E}) insert
unfolding insert chosen_columns groups further_group group written_insert
insert_out = in_second (in_second (in_second (in_second (in_second (in_listed (in_inside lits_out) (in_second (in_inside lits_out)))))))

delete_in : {E : Type 0} → Into (delete {E = E}) written_delete
unfolding delete range_of written_delete
delete_in = kept _

delete_out : {E : Type 0} → Into (written_delete {E = E}) delete
unfolding delete range_of written_delete
delete_out = kept _

-- statements
statement_in : {E : Type 0} → Into (a_statement {E = E}) written_statement
unfolding a_statement query_or_command cursor_command maintenance_command plain_command step close_cursor fetch open_cursor drop_stream written_statement written_cursor written_maintenance
statement_in {E} = record { into = go }
  where
    of_create : (e : E) (ts : List Lexeme) (a : Stmt) → Derives e (either written_stable (either (either written_table written_sub) written_stream)) ts a → Derives e (written_statement {E = E}) ts a
    of_create e ts a (inl d) = inl d
    of_create e ts a (inr (inl (inl d))) = inr (inl d)
    of_create e ts a (inr (inl (inr d))) = inr (inr (inl d))
    of_create e ts a (inr (inr d)) = inr (inr (inr (inr (inr (inl d)))))

    select_in : Into (valued {E = E} stmt.Select query) (valued stmt.Select written_query)
    select_in = in_valued query_in

    cursor_in : Into (word {E = E} OPEN refl ▷ both stmt.OpenCursor name (word AS refl ▷ query)) (word OPEN refl ▷ both stmt.OpenCursor name (word AS refl ▷ written_query))
    cursor_in = in_second (in_second (in_second query_in))

    go : (e : E) (ts : List Lexeme) (a : Stmt) → Derives e (a_statement {E = E}) ts a → Derives e (written_statement {E = E}) ts a
    go e ts a (inl d) = of_create e ts a (create_in.into e ts a d)
    go e ts a (inr (inl d)) = inr (inr (inr (inl (insert_in.into e ts a d))))
    go e ts a (inr (inr (inl d))) = inr (inr (inr (inr (inl (delete_in.into e ts a d)))))
    go e ts a (inr (inr (inr (inl d)))) = inr (inr (inr (inr (inr (inr (inl d))))))
    go e ts a (inr (inr (inr (inr (inl d))))) = inr (inr (inr (inr (inr (inr (inr (inl (select_in.into e ts a d))))))))
    go e ts a (inr (inr (inr (inr (inr (inl d)))))) = inr (inr (inr (inr (inr (inr (inr (inr (inl (inl (cursor_in.into e ts a d))))))))))
    go e ts a (inr (inr (inr (inr (inr (inr (inl d))))))) = inr (inr (inr (inr (inr (inr (inr (inr (inl (inr (inl d))))))))))
    go e ts a (inr (inr (inr (inr (inr (inr (inr (inl d)))))))) = inr (inr (inr (inr (inr (inr (inr (inr (inl (inr (inr d))))))))))
    go e ts a (inr (inr (inr (inr (inr (inr (inr (inr (inl d))))))))) = inr (inr (inr (inr (inr (inr (inr (inr (inr (inr (inr (inr (inr d))))))))))))
    go e ts a (inr (inr (inr (inr (inr (inr (inr (inr (inr (inl d)))))))))) = inr (inr (inr (inr (inr (inr (inr (inr (inr (inl d)))))))))
    go e ts a (inr (inr (inr (inr (inr (inr (inr (inr (inr (inr (inl d))))))))))) = inr (inr (inr (inr (inr (inr (inr (inr (inr (inr (inl d))))))))))
    go e ts a (inr (inr (inr (inr (inr (inr (inr (inr (inr (inr (inr (inl d)))))))))))) = inr (inr (inr (inr (inr (inr (inr (inr (inr (inr (inr (inl d)))))))))))
    go e ts a (inr (inr (inr (inr (inr (inr (inr (inr (inr (inr (inr (inr d)))))))))))) = inr (inr (inr (inr (inr (inr (inr (inr (inr (inr (inr (inr (inl d))))))))))))

statement_out : {E : Type 0} → Into (written_statement {E = E}) a_statement
unfolding a_statement query_or_command cursor_command maintenance_command plain_command step close_cursor fetch open_cursor drop_stream written_statement written_cursor written_maintenance
statement_out {E} = record { into = go }
  where
    select_out : Into (valued {E = E} stmt.Select written_query) (valued stmt.Select query)
    select_out = in_valued query_out

    cursor_out : Into (word {E = E} OPEN refl ▷ both stmt.OpenCursor name (word AS refl ▷ written_query)) (word OPEN refl ▷ both stmt.OpenCursor name (word AS refl ▷ query))
    cursor_out = in_second (in_second (in_second query_out))

    go : (e : E) (ts : List Lexeme) (a : Stmt) → Derives e (written_statement {E = E}) ts a → Derives e (a_statement {E = E}) ts a
    go e ts a (inl d) = inl (create_out.into e ts a (inl d))
    go e ts a (inr (inl d)) = inl (create_out.into e ts a (inr (inl (inl d))))
    go e ts a (inr (inr (inl d))) = inl (create_out.into e ts a (inr (inl (inr d))))
    go e ts a (inr (inr (inr (inl d)))) = inr (inl (insert_out.into e ts a d))
    go e ts a (inr (inr (inr (inr (inl d))))) = inr (inr (inl (delete_out.into e ts a d)))
    go e ts a (inr (inr (inr (inr (inr (inl d)))))) = inl (create_out.into e ts a (inr (inr d)))
    go e ts a (inr (inr (inr (inr (inr (inr (inl d))))))) = inr (inr (inr (inl d)))
    go e ts a (inr (inr (inr (inr (inr (inr (inr (inl d)))))))) = inr (inr (inr (inr (inl (select_out.into e ts a d)))))
    go e ts a (inr (inr (inr (inr (inr (inr (inr (inr (inl (inl d)))))))))) = inr (inr (inr (inr (inr (inl (cursor_out.into e ts a d))))))
    go e ts a (inr (inr (inr (inr (inr (inr (inr (inr (inl (inr (inl d))))))))))) = inr (inr (inr (inr (inr (inr (inl d))))))
    go e ts a (inr (inr (inr (inr (inr (inr (inr (inr (inl (inr (inr d))))))))))) = inr (inr (inr (inr (inr (inr (inr (inl d)))))))
    go e ts a (inr (inr (inr (inr (inr (inr (inr (inr (inr (inl d)))))))))) = inr (inr (inr (inr (inr (inr (inr (inr (inr (inl d)))))))))
    go e ts a (inr (inr (inr (inr (inr (inr (inr (inr (inr (inr (inl d))))))))))) = inr (inr (inr (inr (inr (inr (inr (inr (inr (inr (inl d))))))))))
    go e ts a (inr (inr (inr (inr (inr (inr (inr (inr (inr (inr (inr (inl d)))))))))))) = inr (inr (inr (inr (inr (inr (inr (inr (inr (inr (inr (inl d)))))))))))
    go e ts a (inr (inr (inr (inr (inr (inr (inr (inr (inr (inr (inr (inr (inl d))))))))))))) = inr (inr (inr (inr (inr (inr (inr (inr (inr (inr (inr (inr d)))))))))))
    go e ts a (inr (inr (inr (inr (inr (inr (inr (inr (inr (inr (inr (inr (inr d))))))))))))) = inr (inr (inr (inr (inr (inr (inr (inr (inl d))))))))

pub text_in : Into statement_text written_text
unfolding statement_text written_text
text_in = in_both statement_in (kept _)

pub text_out : Into written_text statement_text
unfolding statement_text written_text
text_out = in_both statement_out (kept _)
