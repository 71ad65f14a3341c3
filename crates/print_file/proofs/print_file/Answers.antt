-- `print_file::print_file` meets its contract. Assumes nothing.
use Rattle.std.proofs.Common.{◌≡◌, List, ℕ, take, OnErr, OnOk, IfSome, subst, arith, rules, length-take-le}
use Rattle.std.specs.Prelude.{Ok, Err, Some, None}
use Rattle.std.specs.declared.option.Option.{Option}
use Rattle.std.specs.declared.result.Result.{Result}
use Rattle.std.specs.Io.KnownBytes.{Appends}
use Rattle.std.proofs.KnownBytes.{Appends-nil}
use Rattle.std.proofs.Math.Nat.{sub-zero}
use Rattle.printing.specs.declared.Tone.{Tone}
use Rattle.printing.specs.Printing.{printed}
use Rattle.print_file.specs.Parts.{AppendsFront}
use Rattle.printing.proofs.NeverEmpty.{printed_never_empty}
use Rattle.print_file.proofs.Whole.{printed_whole}
use Rattle.print_file.proofs.print_file.Goals as goal

on_ok : {T E A B : Type 0} (r : Result T E) → OnOk r A → (A → B) → OnOk r B
on_ok (Ok v) a f = f a
on_ok (Err e) a f = tt

on_err : {T E A B : Type 0} (r : Result T E) → OnErr r A → (A → B) → OnErr r B
on_err (Ok v) a f = tt
on_err (Err e) a f = f a

none_written : {T E : Type 0} (r : Result T E) (tone : Tone) (input held : Option (List ℕ))
    → OnErr r (IfSome input (λ file. AppendsFront held held (printed tone file)))
none_written (Ok v) tone input held = tt
none_written (Err e) tone None held = tt
none_written (Err e) tone (Some file) held = (0, printed_never_empty tone file, Appends-nil held)

pub returns-in_err-length-clause-front : goal.returns-in_err-length-clause-front
returns-in_err-length-clause-front g c = none_written c.from_residual.result c.args.tone _ _

pub returns : goal.returns
returns g c =
    let read = c.in_ok-length.ensures in
    let count = length-take-le c.in_ok-length.length c.read_full.new.file read.within.0 in
    let composed : c.as_bytes.result.now ≡ printed c.args.tone (take c.in_ok-length.length c.read_full.new.file) = search (rules, sub-zero) in
    let of_printed : (P : List ℕ → Type 0) → P c.as_bytes.result.now
    → IfSome (g.R.Read.remaining c.args.input.now) (λ file. P (printed c.args.tone file)) = λ P p.
    printed_whole c.args.tone _ _ _ P read.bytes (λ h. read.end (omega arith)) (subst P composed p) in
    record {
      whole = on_ok c.write_full.result c.write_full.ensures.whole (of_printed (Appends _ _));
      front = on_err c.write_full.result c.write_full.ensures.front (of_printed (AppendsFront _ _));
    }
