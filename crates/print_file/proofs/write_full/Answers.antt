-- `print_file::write_full` meets its contract. Assumes nothing.
use Rattle.std.proofs.Common.{ℕ, ◌+◌, ◌-◌, ◌≤◌, List, ◌++◌, OnErr, length, take, drop, sym, ◌∙◌, ap, subst, rules, take-add, take-take, take_all}
use Rattle.std.specs.Prelude.{Ok, Err}
use Rattle.std.specs.declared.option.Option.{Option}
use Rattle.std.specs.declared.result.Result.{Result}
use Rattle.std.specs.Io.KnownBytes.{Appends}
use Rattle.std.proofs.KnownBytes.{Appends-nil, Appends-trans, Appends-kept}
use Rattle.print_file.proofs.write_full.Goals as goal

-- what a write takes of the rest stands behind what was written before it
written_behind : (a b c : Option (List ℕ)) (bytes : List ℕ) (at n : ℕ) → n ≤ length bytes - at → Appends a b (take at bytes)
    → Appends b c (take n (take (length bytes - at) (drop at bytes))) → Appends a c (take (at + n) bytes)
written_behind a b c bytes at n fits before next =
    subst (Appends a c)
    (sym (take-add at n bytes ∙ ap (λ (l : List ℕ). take at bytes ++ l) (sym (take-take n (length bytes - at) (drop at bytes) fits))))
    (Appends-trans a b c _ _ before next)

on_err : {T E P : Type 0} (r : Result T E) → P → OnErr r P
on_err (Ok v) p = tt
on_err (Err e) p = p

pub loop-length-init : goal.loop-length-init
loop-length-init g c = (search rules, Appends-nil _)

pub returns-in_err-written-clause-front : goal.returns-in_err-written-clause-front
returns-in_err-written-clause-front g c =
    let before = c.loop-length.invariant in
    on_err c.from_residual.result (c.loop-length.length, search rules, Appends-kept _ _ _ _ before.1 c.in_err-written.ensures.bytes)

pub returns-then-written-eq0-clause-front : goal.returns-then-written-eq0-clause-front
returns-then-written-eq0-clause-front g c =
    let before = c.loop-length.invariant in (
      c.loop-length.length + c.in_ok-written.written,
      search rules,
      written_behind _ _ _ _ _ _ (search rules) before.1 c.in_ok-written.ensures.bytes,
    )

pub loop-length-preserved : goal.loop-length-preserved
loop-length-preserved g c =
    let before = c.loop-length.invariant in (
      search rules,
      written_behind _ _ _ _ _ _ (search rules) before.1 c.in_ok-written.ensures.bytes,
    )

pub returns-clause-whole : goal.returns-clause-whole
returns-clause-whole g c =
    let before = c.loop-length.invariant in subst (Appends _ _) (take_all c.loop-length.length c.args.bytes.now (search rules)) before.1
