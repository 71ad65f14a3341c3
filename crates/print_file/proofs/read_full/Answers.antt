-- `print_file::read_full` meets its contract. Assumes nothing.
use Rattle.std.proofs.Common.{◌≡◌, ℕ, ◌+◌, ◌≤◌, List, ◌++◌, length, take, sym, ◌∙◌, ap, subst, rules, length-take-le}
use Rattle.std.proofs.Math.Seq.{take-append-add}
use Rattle.std.proofs.lemmas.List.{take-append-le}
use Rattle.std.specs.Io.KnownBytes.{Consumes}
use Rattle.std.proofs.KnownBytes.{Consumes-trans}
use Rattle.print_file.proofs.read_full.Goals as goal

-- what a read gives stands behind what was read before
read_behind : (at n : ℕ) (file part rest : List ℕ) → at ≤ length file → n ≤ length part
    → take (at + n) (take at file ++ (part ++ rest)) ≡ take at file ++ take n part
read_behind at n file part rest within fits =
    subst (λ (m : ℕ). take (m + n) (take at file ++ (part ++ rest)) ≡ take at file ++ take n part) (length-take-le at file within)
    (take-append-add (take at file) (part ++ rest) n ∙ ap (λ (l : List ℕ). take at file ++ l) (take-append-le n part rest fits))

pub loop-length-preserved : goal.loop-length-preserved
loop-length-preserved g c =
    let before = c.loop-length.invariant in
    let read = c.in_ok-count.ensures in (
      search rules,
      search rules,
      subst (Consumes _ _) (sym (read_behind _ _ _ _ _ before.1 read.bound.0)) (Consumes-trans _ _ _ _ _ before.2 read.bytes.0),
    )
