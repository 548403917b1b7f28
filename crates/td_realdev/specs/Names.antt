-- Names of logs and files in a directory of the system.
use Rattle.std.specs.Prelude.{ℕ, List, ◌++◌, decimal, encode_utf8}

-- a letter and a number in plain decimal
abbrev pub numbered : ℕ → ℕ → List ℕ
numbered letter number = encode_utf8 letter ++ decimal number
