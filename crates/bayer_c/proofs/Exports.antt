-- The exports for C: the contract of each, as the language hands it to a caller, says that the number and place of an
-- answer are returned, and that this answer and the lent buffers at the end are what WhatCallsLeave says; both ways. It
-- asks nothing of the caller, whatever is lent. So all that is proved of the calls holds of the exports. Assumes
-- nothing.
use Rattle.std.specs.Prelude.{◌≡◌, ◌↔◌, List, ℕ, ℤ, length}
use base.Logic.{ent}
use contract.Lifetimes.{Lfts}
use contract.Monad.{fact, conj}
use borrow.Fn.World.{World, ArgsD, ResD, In}
use borrow.Fn.Kinds.{ended_of}
use denote.Triple.Clauses.{AtExit}
use Rattle.frame.specs.Sites.{Frame, frame}
use Rattle.answers.specs.Calls.{develop_answer, clamp_answer, curve_answer, Answer, ReadAnswer}
use Rattle.frame_file.specs.FrameFile.{read_answer, write_answer}
use Rattle.bayer_c.specs.declared.Returned.{Returned}
use Rattle.bayer_c.specs.declared.ReadReturned.{ReadReturned}
use Rattle.bayer_c.specs.Exports.{Exported, ReadExported, Returns, ReturnsByRead}
use Rattle.bayer_c.specs.contracts.bayer_develop as develop
use Rattle.bayer_c.proofs.bayer_develop.Kinds as develop_kinds
use Rattle.bayer_c.proofs.bayer_develop.Reads as develop_contract
use Rattle.bayer_c.specs.contracts.bayer_clamp as clamp
use Rattle.bayer_c.proofs.bayer_clamp.Kinds as clamp_kinds
use Rattle.bayer_c.proofs.bayer_clamp.Reads as clamp_contract
use Rattle.bayer_c.specs.contracts.bayer_curve as curve
use Rattle.bayer_c.proofs.bayer_curve.Kinds as curve_kinds
use Rattle.bayer_c.proofs.bayer_curve.Reads as curve_contract
use Rattle.bayer_c.specs.contracts.bayer_read as read
use Rattle.bayer_c.proofs.bayer_read.Kinds as read_kinds
use Rattle.bayer_c.proofs.bayer_read.Reads as read_contract
use Rattle.bayer_c.specs.contracts.bayer_write as write
use Rattle.bayer_c.proofs.bayer_write.Kinds as write_kinds
use Rattle.bayer_c.proofs.bayer_write.Reads as write_contract
use Rattle.calls.proofs.LentBytes.{called}
use Rattle.calls.specs.Buffers.{Buffers, buffers, lengths_of}
use Rattle.calls.specs.WhatCallsLeave.{DevelopLeaves, ClampLeaves, CurveLeaves, ReadLeaves, ReadCalled, WriteLeaves}

-- the answer that a call's record determines is the one that is returned
of_answer : {Left : Type 0} {Leaves : Answer → Left → Type 0} {r : Returned} {left : Left} (answer : Answer)
    → ((a : Answer) → Leaves a left → a ≡ answer) → Returns Leaves r left ↔ (Exported answer r × Leaves answer left)
of_answer answer answered = (
  λ p. rw (← answered p.answer p.leaves) (p.exported, p.leaves),
  λ q. record { answer = answer; exported = q.0; leaves = q.1 },
)

of_read_answer : {Left : Type 0} {Leaves : ReadAnswer → Left → Type 0} {r : ReadReturned} {left : Left} (answer : ReadAnswer)
    → ((a : ReadAnswer) → Leaves a left → a ≡ answer) → ReturnsByRead Leaves r left ↔ (ReadExported answer r × Leaves answer left)
of_read_answer answer answered = (
  λ p. rw (← answered p.answer p.leaves) (p.exported, p.leaves),
  λ q. record { answer = answer; exported = q.0; leaves = q.1 },
)

-- bayer_clamp(plane, clamped)
abbrev pub ClampReturns : List ℤ → List ℤ → Returned → List ℤ → Type 0
ClampReturns numbers before r left =
    let answer = clamp_answer (length numbers) (length before) in Exported answer r × ClampLeaves numbers before answer left

pub clamp_asks_nothing : (κs : Lfts 2) (a : ArgsD clamp.signature κs) → clamp_contract.Asked κs a
clamp_asks_nothing κs a = tt

pub clamp_returns : (κs : Lfts 2) (a : ArgsD clamp.signature κs) (r : ResD clamp.signature κs)
    (s : AtExit (ended_of 2 clamp_kinds.ps clamp_kinds.r) κs)
    → clamp_contract.Learnt κs a r s ↔ ClampReturns a.0.now a.1.0.now r s.1.0.now
clamp_returns κs a r s = of_answer _ (λ answer call. call.answered)

-- bayer_curve(plane, curved)
abbrev pub CurveReturns : List ℤ → List ℤ → Returned → List ℤ → Type 0
CurveReturns numbers before r left =
    let answer = curve_answer numbers (length before) in Exported answer r × CurveLeaves numbers before answer left

pub curve_asks_nothing : (κs : Lfts 2) (a : ArgsD curve.signature κs) → curve_contract.Asked κs a
curve_asks_nothing κs a = tt

pub curve_returns : (κs : Lfts 2) (a : ArgsD curve.signature κs) (r : ResD curve.signature κs)
    (s : AtExit (ended_of 2 curve_kinds.ps curve_kinds.r) κs)
    → curve_contract.Learnt κs a r s ↔ CurveReturns a.0.now a.1.0.now r s.1.0.now
curve_returns κs a r s = of_answer _ (λ answer call. call.answered)

-- bayer_read(file, samples)
abbrev pub ReadReturns : List ℕ → List ℕ → ReadReturned → List ℕ → Type 0
ReadReturns file before r left =
    let answer = read_answer file (length before) in ReadExported answer r × ReadLeaves file before answer left

pub read_asks_nothing : (κs : Lfts 2) (a : ArgsD read.signature κs) → read_contract.Asked κs a
read_asks_nothing κs a = tt

pub read_returns : (κs : Lfts 2) (a : ArgsD read.signature κs) (r : ResD read.signature κs)
    (s : AtExit (ended_of 2 read_kinds.ps read_kinds.r) κs)
    → read_contract.Learnt κs a r s ↔ ReadReturns a.0.now a.1.0.now r s.1.0.now
read_returns κs a r s = of_read_answer _ (λ answer call. call.answered)

-- and a call of it: its file is lent as bytes, by its type
pub read_called : (w : World) (κs : Lfts 2) (a : ArgsD read.signature κs) (r : ResD read.signature κs)
    (s : AtExit (ended_of 2 read_kinds.ps read_kinds.r) κs)
    → ent w.𝓤 (conj w.𝓤 (In read.signature κs a w) (fact w.𝓤 (read_contract.Learnt κs a r s)))
    (fact w.𝓤
    (let answer = read_answer a.0.now (length a.1.0.now) in ReadExported answer r × ReadCalled a.0.now a.1.0.now answer s.1.0.now))
read_called w κs a r s =
    called w read.signature.result κs a
    (λ bytes learnt. let q = (read_returns κs a r s).0 learnt in (q.0, record { bytes = bytes; leaves = q.1 }))

-- bayer_write(shape, mosaic, file)
abbrev pub WriteReturns : Frame → List ℕ → Returned → List ℕ → Type 0
WriteReturns f before r left =
    let answer = write_answer f (length before) in Exported answer r × WriteLeaves f before answer left

pub write_asks_nothing : (κs : Lfts 2) (a : ArgsD write.signature κs) → write_contract.Asked κs a
write_asks_nothing κs a = tt

pub write_returns : (κs : Lfts 2) (a : ArgsD write.signature κs) (r : ResD write.signature κs)
    (s : AtExit (ended_of 2 write_kinds.ps write_kinds.r) κs)
    → write_contract.Learnt κs a r s ↔ WriteReturns (frame a.0 a.1.0.now) a.1.1.0.now r s.1.1.0.now
write_returns κs a r s = of_answer _ (λ answer call. call.answered)

-- bayer_develop(shape, black, mosaic, red, green, blue, map, work)
abbrev pub DevelopReturns : Frame → ℕ → Buffers → Returned → Buffers → Type 0
DevelopReturns f b before r left =
    let answer = develop_answer f b (lengths_of before) in Exported answer r × DevelopLeaves f b before answer left

pub develop_asks_nothing : (κs : Lfts 6) (a : ArgsD develop.signature κs) → develop_contract.Asked κs a
develop_asks_nothing κs a = tt

pub develop_returns : (κs : Lfts 6) (a : ArgsD develop.signature κs) (r : ResD develop.signature κs)
    (s : AtExit (ended_of 6 develop_kinds.ps develop_kinds.r) κs)
    → develop_contract.Learnt κs a r s ↔ DevelopReturns (frame a.0 a.1.1.0.now) a.1.0
    (buffers a.1.1.1.0.now a.1.1.1.1.0.now a.1.1.1.1.1.0.now
    a.1.1.1.1.1.1.0.now a.1.1.1.1.1.1.1.0.now)
    r
    (buffers s.1.1.1.0.now s.1.1.1.1.0.now s.1.1.1.1.1.0.now
    s.1.1.1.1.1.1.0.now s.1.1.1.1.1.1.1.0.now)
develop_returns κs a r s = of_answer _ (λ answer call. call.answered)
