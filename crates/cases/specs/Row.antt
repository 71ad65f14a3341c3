-- What a row of the case table is: what the definitions give beside what is told. Assumes nothing.
use Rattle.std.specs.Prelude.{List, map, ℕ, ℤ, pos}
use Rattle.method.specs.Green.{Direction, Outcome}

-- what a case speaks of: a number, an outcome of the first pass, a direction
pub data Value : Type 0 where
  number : ℤ → Value
  site : Outcome → Value
  takes : Direction → Value

abbrev pub numbers : List ℤ → List Value
numbers l = map number l

abbrev pub naturals : List ℕ → List Value
naturals l = map (λ n. number (pos n)) l

pub record Case : Type 0 where
  pub given : List Value
  pub told : List Value

-- the two columns of a table
abbrev pub all_given : List Case → List (List Value)
all_given rows = map (λ (c : Case). c.given) rows

abbrev pub all_told : List Case → List (List Value)
all_told rows = map (λ (c : Case). c.told) rows
