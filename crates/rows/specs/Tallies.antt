use Rattle.std.specs.Prelude.{◌+◌, ◌-◌, ◌^◌, ◌++◌, ℕ, List, min, codes, decimal}

-- one more, as far as a counter goes
abbrev pub one_more : ℕ → ℕ
one_more n = min (n + 1) (2 ^ 64 - 1)

-- what the counts are told as
abbrev pub told : ℕ → ℕ → List ℕ
told rows differ = decimal rows ++ (codes " rows, " ++ (decimal differ ++ codes " differ"))
