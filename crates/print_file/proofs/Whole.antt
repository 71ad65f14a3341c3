-- Of a file of which as much was read as a buffer of 2,049 bytes takes, that is printed which is printed of the whole. Assumes nothing.
use Rattle.std.specs.Prelude.{List, ◌++◌, ℕ, ◌<◌, ltb, length, IfSome, Some, None}
use Rattle.std.specs.Io.KnownBytes.{Consumes, IsAtEnd}
use Rattle.std.proofs.Common.{sym, ◌∙◌, ap, subst, arith, length-append}
use Rattle.std.proofs.lemmas.List.{append-nil}
use Rattle.std.specs.declared.option.Option.{Option}
use Rattle.toolkit.specs.Tests.{by_test, ltb_lt, ltb_ge}
use Rattle.printing.specs.declared.Tone.{Tone}
use Rattle.printing.specs.Printing.{printed}
use Rattle.frame_text.specs.Reads.{long_printed}

pub printed_whole : (tone : Tone) (before after : Option (List ℕ)) (bytes : List ℕ) (P : List ℕ → Type 0) → Consumes before after bytes
    → (length bytes < 2049 → IsAtEnd after) → P (printed tone bytes) → IfSome before (λ file. P (printed tone file))
printed_whole tone None after bytes P read end p = tt
printed_whole tone (Some file) None bytes P read end p = absurd read
printed_whole tone (Some file) (Some rest) bytes P read end p = by_test (ltb (length bytes) 2049) _
    (λ t. subst (λ (l : List ℕ). P (printed tone l)) (sym (read ∙ (ap (λ (l : List ℕ). bytes ++ l) (end (ltb_lt _ _ t)) ∙ append-nil bytes))) p)
    (λ t.
    let long = ltb_ge (length bytes) 2049 t in
    let longer = ap length read in
    subst P
    (sym (long_printed tone bytes (omega arith)) ∙ long_printed tone file (omega (arith, longer, length-append bytes rest)))
    p)
