-- Names in statements.
use Rattle.std.proofs.Common.{ℕ, List, Option, Some, None}
use Rattle.std.specs.Prelude.{IfSome}
use Rattle.td_model.specs.declared.catalog.Column.{Column}
use Rattle.td_parse.specs.Productions.{column, column_list, columns, tag, tag_list, tags, stable, body_of, own_columns, of_stable, table_of, table_body, table, chosen_columns, insert, delete, stream, create, drop_stream, open_cursor, fetch, close_cursor, step, plain_command, maintenance_command, cursor_command, query_or_command, a_statement, statement_text}
use Rattle.td_printed.specs.Names.{IsName, AreNames, AreNamed, HasWords}
use Rattle.td_printed.proofs.Says.{Says, unsaid, of_valued, of_both, of_pair, of_under, of_second, of_first, of_option, of_either, of_comma_list, of_inside, name_says}
use Rattle.td_printed.proofs.Queries.{names_say, query_says}

-- ---- columns and tags

column_says : {E : Type 0} → Says (column {E = E}) (λ (c : Column). IsName c.name)
unfolding column
column_says = of_both name_says (unsaid _) (λ n k m u. m)

columns_say : {E : Type 0} → Says (columns {E = E}) AreNamed
unfolding columns column_list
columns_say = of_inside (of_comma_list column_says)

tag_says : {E : Type 0} → Says (tag {E = E}) (λ (c : Column). IsName c.name)
unfolding tag
tag_says = of_both name_says (unsaid _) (λ n k m u. m)

tags_say : {E : Type 0} → Says (tags {E = E}) AreNamed
unfolding tags tag_list
tags_say = of_second (of_inside (of_comma_list tag_says))

-- ---- CREATE

stable_says : {E : Type 0} → Says (stable {E = E}) HasWords
unfolding stable
stable_says = of_second (of_both name_says (of_pair columns_say (of_option tags_say)) (λ n r m k. (m, k.0, k.1)))

owned : (own : List Column) (given : Option (List Column)) → AreNamed own → IfSome given AreNamed → (n : List ℕ)
    → IsName n → HasWords (table_of n (body_of own given))
owned own None m k n is = (is, m)
owned own (Some given) m k n is = (is, m, k)

own_columns_say : {E : Type 0} → Says (own_columns {E = E}) (λ b. (n : List ℕ) → IsName n → HasWords (table_of n b))
unfolding own_columns
own_columns_say = of_both columns_say (of_option tags_say) owned

of_stable_says : {E : Type 0} → Says (of_stable {E = E}) (λ b. (n : List ℕ) → IsName n → HasWords (table_of n b))
unfolding of_stable
of_stable_says = of_second (of_both name_says (unsaid _) (λ s l m u n is. (is, m)))

table_says : {E : Type 0} → Says (table {E = E}) HasWords
unfolding table table_body
table_says = of_second (of_both name_says (of_either of_stable_says own_columns_say) (λ n b m f. f n m))

stream_says : {E : Type 0} → Says (stream {E = E}) HasWords
unfolding stream
stream_says = of_second (of_both name_says (of_pair (unsaid _) (of_second (of_pair name_says (of_second query_says))))
    (λ n r m k. record { name = m; target = k.1.0; query = k.1.1 }))

create_says : {E : Type 0} → Says (create {E = E}) HasWords
unfolding create
create_says = of_second (of_either stable_says (of_either table_says stream_says))

-- ---- INSERT, DELETE, DROP STREAM

chosen_say : {E : Type 0} → Says (chosen_columns {E = E}) (λ c. IfSome c AreNames)
unfolding chosen_columns
chosen_say = of_option (of_inside names_say)

insert_says : {E : Type 0} → Says (insert {E = E}) HasWords
unfolding insert
insert_says =
    of_second (of_second (of_both name_says (of_pair chosen_say (of_second (unsaid _))) (λ t r m k. (m, k.0))))

delete_says : {E : Type 0} → Says (delete {E = E}) HasWords
unfolding delete
delete_says =
    of_second
    (of_second (of_both name_says (of_second (of_under {R = λ r. IsName r.0} name_says (λ c r m. m)))
    (λ t r m k. (m, k))))

drop_says : {E : Type 0} → Says (drop_stream {E = E}) HasWords
unfolding drop_stream
drop_says = of_second (of_second (of_valued name_says (λ n m. m)))

-- ---- cursors and maintenance

open_says : {E : Type 0} → Says (open_cursor {E = E}) HasWords
unfolding open_cursor
open_says = of_second (of_both name_says (of_second query_says) (λ n q m k. (m, k)))

fetch_says : {E : Type 0} → Says (fetch {E = E}) HasWords
unfolding fetch
fetch_says = of_second (of_both name_says (unsaid _) (λ n k m u. m))

close_says : {E : Type 0} → Says (close_cursor {E = E}) HasWords
unfolding close_cursor
close_says = of_second (of_valued name_says (λ n m. m))

step_says : {E : Type 0} → Says (step {E = E}) HasWords
unfolding step
step_says = of_second (of_valued name_says (λ n m. m))

plain_says : {E : Type 0} → Says (plain_command {E = E}) HasWords
unfolding plain_command
plain_says = of_either (of_valued (unsaid _) (λ _ _. tt))
    (of_either (of_valued (unsaid _) (λ _ _. tt))
    (of_either (of_valued (unsaid _) (λ _ _. tt)) (of_valued (unsaid _) (λ _ _. tt))))

command_says : {E : Type 0} → Says (query_or_command {E = E}) HasWords
unfolding query_or_command cursor_command maintenance_command
command_says =
    of_either drop_says
    (of_either (of_valued query_says (λ q m. m))
    (of_either open_says (of_either fetch_says (of_either close_says (of_either step_says plain_says)))))

pub statement_says : Says statement_text HasWords
unfolding statement_text a_statement
statement_says = of_first (of_either create_says (of_either insert_says (of_either delete_says command_says)))
