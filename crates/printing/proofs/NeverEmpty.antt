-- Whatever is printed of a file has a first byte. Assumes nothing.
use Rattle.std.specs.Prelude.{List, ℕ, ◌<◌, ltb, length, Err, Ok}
use Rattle.std.proofs.Common.{arith}
use Rattle.toolkit.specs.Tests.{by_test}
use Rattle.answers.specs.declared.Refusal.{Refusal}
use Rattle.answers.specs.Calls.{Answer, develop_answer}
use Rattle.frame.specs.Sites.{Frame}
use Rattle.frame_file.specs.FrameFile as File
use Rattle.printing.specs.declared.Tone.{Tone}
use Rattle.printing.specs.Printing.{heading, refused_word, refusal_text, frame_text, black_level, lent, text_of_developed, text_of, printed}

refusal_never_empty : (why : Refusal) → 0 < length (refusal_text why)
unfolding refusal_text refused_word
refusal_never_empty why = omega arith

developed_never_empty : (tone : Tone) (f : Frame) (answer : Answer) → 0 < length (text_of_developed tone f answer)
unfolding frame_text heading
developed_never_empty tone f (Ok _) = omega arith
developed_never_empty tone f (Err why) = refusal_never_empty why

read_never_empty : (tone : Tone) (found : File.Reading) → 0 < length (text_of tone found)
read_never_empty tone (Ok f) = developed_never_empty tone f (develop_answer f black_level (lent f))
read_never_empty tone (Err why) = refusal_never_empty why

pub printed_never_empty : (tone : Tone) (file : List ℕ) → 0 < length (printed tone file)
unfolding printed
printed_never_empty tone file =
    by_test (ltb 2048 (length file)) _ (λ t. rw (t) (refusal_never_empty _)) (λ t. rw (t) (read_never_empty tone _))
