-- The words of the language, and the kinds of tokens.
use Rattle.std.specs.Prelude.{ℕ, ℤ, pos, Bool, ◌||◌, ◌==◌, if◌then◌else◌, List, [], ◌∷◌, ◌++◌, map}
use lib.Chars.{codes}
use Rattle.std.specs.Str.{bytes_eq}
use Rattle.std.specs.Ordering.{int_eq}
use Rattle.td_lex.specs.declared.kinds.Token.{Token}
use Rattle.td_lex.specs.declared.kinds.Token.TheVariants.{Word, Num, Dur, Str, Sym, Le, Ge, Ne}
use Rattle.td_grammar.specs.declared.kinds.TheConstants as kinds
use Rattle.td_grammar.specs.declared.lexemes.Lexeme.{Lexeme}
use Rattle.td_grammar.specs.declared.words.Spelled.{Spelled}

-- texts with their kinds
abbrev pub Table : Type 0
Table = List (List ℕ × ℕ)

abbrev pub table_of : List Spelled → Table
table_of entries = map (λ e. (e.text.now, e.kind)) entries

-- the kind of a text in a table, or else this one
abbrev pub lookup : Table → List ℕ → ℕ → ℕ
lookup [] text other = other
lookup (entry ∷ table) text other = if bytes_eq text entry.0 then entry.1 else lookup table text other

-- reserved words
abbrev pub reserved : Table
reserved =
    (codes "create", kinds.CREATE) ∷ (codes "stable", kinds.STABLE) ∷ (codes "table", kinds.TABLE) ∷
    (codes "using", kinds.USING) ∷ (codes "tags", kinds.TAGS) ∷ (codes "insert", kinds.INSERT) ∷
    (codes "into", kinds.INTO) ∷ (codes "values", kinds.VALUES) ∷ (codes "delete", kinds.DELETE) ∷
    (codes "from", kinds.FROM) ∷ (codes "where", kinds.WHERE) ∷ (codes "and", kinds.AND) ∷
    (codes "between", kinds.BETWEEN) ∷ (codes "is", kinds.IS) ∷ (codes "not", kinds.NOT) ∷
    (codes "null", kinds.NULL) ∷ (codes "select", kinds.SELECT) ∷ (codes "as", kinds.AS) ∷
    (codes "partition", kinds.PARTITION) ∷ (codes "by", kinds.BY) ∷ (codes "interval", kinds.INTERVAL) ∷
    (codes "sliding", kinds.SLIDING) ∷ (codes "session", kinds.SESSION) ∷
    (codes "state_window", kinds.STATE_WINDOW) ∷ (codes "order", kinds.ORDER) ∷ (codes "asc", kinds.ASC) ∷
    (codes "desc", kinds.DESC) ∷ (codes "limit", kinds.LIMIT) ∷ (codes "offset", kinds.OFFSET) ∷
    (codes "stream", kinds.STREAM) ∷ (codes "drop", kinds.DROP) ∷ (codes "true", kinds.TRUE) ∷
    (codes "false", kinds.FALSE) ∷ (codes "now", kinds.NOW) ∷ (codes "tbname", kinds.TBNAME) ∷
    (codes "_wstart", kinds.WSTART) ∷ (codes "_wend", kinds.WEND) ∷ []

-- words that are not built, and are reserved too
abbrev pub not_built : Table
not_built =
    (codes "alter", kinds.NOT_BUILT) ∷ (codes "fill", kinds.NOT_BUILT) ∷ (codes "group", kinds.NOT_BUILT) ∷
    (codes "having", kinds.NOT_BUILT) ∷ (codes "or", kinds.NOT_BUILT) ∷ (codes "in", kinds.NOT_BUILT) ∷
    (codes "like", kinds.NOT_BUILT) ∷ (codes "distinct", kinds.NOT_BUILT) ∷ (codes "if", kinds.NOT_BUILT) ∷
    (codes "union", kinds.NOT_BUILT) ∷ (codes "join", kinds.NOT_BUILT) ∷ (codes "slimit", kinds.NOT_BUILT) ∷
    (codes "event_window", kinds.NOT_BUILT) ∷ (codes "count_window", kinds.NOT_BUILT) ∷
    (codes "subtable", kinds.NOT_BUILT) ∷ (codes "update", kinds.NOT_BUILT) ∷
    (codes "delete_mark", kinds.NOT_BUILT) ∷ []

-- words that begin a statement, and are not reserved
abbrev pub heads : Table
heads =
    (codes "open", kinds.OPEN) ∷ (codes "fetch", kinds.FETCH) ∷ (codes "close", kinds.CLOSE) ∷
    (codes "commit", kinds.COMMIT) ∷ (codes "merge", kinds.MERGE) ∷ (codes "sweep", kinds.SWEEP) ∷
    (codes "trim", kinds.TRIM) ∷ (codes "step", kinds.STEP) ∷ []

-- types
abbrev pub types : Table
types =
    (codes "bool", kinds.BOOL) ∷ (codes "timestamp", kinds.TIMESTAMP) ∷ (codes "tinyint", kinds.TINYINT) ∷
    (codes "smallint", kinds.SMALLINT) ∷ (codes "int", kinds.INT) ∷ (codes "integer", kinds.INT) ∷
    (codes "bigint", kinds.BIGINT) ∷ (codes "unsigned", kinds.UNSIGNED) ∷ []

-- types that no column has; in a tag VARCHAR and BINARY are built
abbrev pub not_built_types : Table
not_built_types =
    (codes "float", kinds.NOT_BUILT_TYPE) ∷ (codes "double", kinds.NOT_BUILT_TYPE) ∷
    (codes "nchar", kinds.NOT_BUILT_TYPE) ∷ (codes "varbinary", kinds.NOT_BUILT_TYPE) ∷
    (codes "json", kinds.NOT_BUILT_TYPE) ∷ (codes "geometry", kinds.NOT_BUILT_TYPE) ∷
    (codes "decimal", kinds.NOT_BUILT_TYPE) ∷ (codes "varchar", kinds.VARCHAR) ∷ (codes "binary", kinds.VARCHAR) ∷ []

-- functions
abbrev pub functions : Table
functions =
    (codes "count", kinds.COUNT) ∷ (codes "sum", kinds.SUM) ∷ (codes "min", kinds.MIN) ∷ (codes "max", kinds.MAX) ∷
    (codes "avg", kinds.AVG) ∷ (codes "first", kinds.FIRST) ∷ (codes "last", kinds.LAST) ∷
    (codes "spread", kinds.SPREAD) ∷ []

-- options of a stream
abbrev pub options : Table
options =
    (codes "trigger", kinds.TRIGGER) ∷ (codes "at_once", kinds.AT_ONCE) ∷
    (codes "window_close", kinds.WINDOW_CLOSE) ∷ (codes "max_delay", kinds.MAX_DELAY) ∷
    (codes "watermark", kinds.WATERMARK) ∷ (codes "ignore", kinds.IGNORE) ∷ (codes "expired", kinds.EXPIRED) ∷
    (codes "fill_history", kinds.FILL_HISTORY) ∷ []

abbrev pub words : Table
words = reserved ++ not_built ++ heads ++ types ++ not_built_types ++ functions ++ options

-- The kind of a word: a reserved one's, or that of a word with a place of its own, which may be a name too; all
-- others are plain.
abbrev pub kind_of_word : List ℕ → ℕ
kind_of_word word = lookup words word kinds.PLAIN_WORD

-- signs of one byte
abbrev pub signs : Table
signs =
    (codes "(", kinds.OPEN_PAREN) ∷ (codes ")", kinds.CLOSE_PAREN) ∷ (codes ",", kinds.COMMA) ∷
    (codes ";", kinds.SEMICOLON) ∷ (codes "*", kinds.STAR) ∷ (codes "<", kinds.LESS) ∷ (codes ">", kinds.MORE) ∷
    (codes "=", kinds.EQUAL) ∷ []

-- the kind of a sign of one byte
abbrev pub kind_of_sign : ℕ → ℕ
kind_of_sign sign = lookup signs (sign ∷ []) kinds.EQUAL

-- whether a number is a bit, 0 or 1
abbrev pub is_bit : ℤ → Bool
is_bit n = int_eq n (pos 0) || int_eq n (pos 1)

-- the kind of a token
abbrev pub kind_of : Token → ℕ
kind_of (Word word) = kind_of_word word
kind_of (Num n) = if is_bit n then kinds.BIT else kinds.NUMBER
kind_of (Dur count unit) = kinds.DURATION
kind_of (Str text) = kinds.TEXT
kind_of (Sym sign) = kind_of_sign sign
kind_of Le = kinds.AT_MOST
kind_of Ge = kinds.AT_LEAST
kind_of Ne = kinds.OTHER_THAN

abbrev pub lexeme_of : Token → Lexeme
lexeme_of t = record { kind = kind_of t; token = t }

-- the first text of a kind in a table, or else `x`, which is a plain word
abbrev pub spelling : Table → ℕ → List ℕ
spelling [] kind = codes "x"
spelling (entry ∷ table) kind = if entry.1 == kind then entry.0 else spelling table kind

abbrev pub first_byte : List ℕ → ℕ
first_byte [] = 0
first_byte (b ∷ bs) = b
