-- The contract of each published call, as the language hands it to a caller, is its record of WhatCallsLeave: one is
-- the other, both ways (`.._leaves`). It asks nothing of the caller, whatever is lent (`.._asks_nothing`). `a` is what
-- the call is lent, r what it returns, and s the lent buffers at its end. Assumes nothing.
use Rattle.std.specs.Prelude.{◌↔◌}
use base.Logic.{ent}
use contract.Lifetimes.{Lfts}
use contract.Monad.{fact, conj}
use borrow.Fn.World.{World, ArgsD, ResD, In}
use borrow.Fn.Kinds.{ended_of}
use denote.Triple.Clauses.{AtExit}
use Rattle.frame.specs.Sites.{frame}
use Rattle.develop.specs.contracts.develop as develop
use Rattle.develop.proofs.develop.Kinds as develop_kinds
use Rattle.develop.proofs.develop.Reads as develop_contract
use Rattle.clamp.specs.contracts.clamp as clamp
use Rattle.clamp.proofs.clamp.Kinds as clamp_kinds
use Rattle.clamp.proofs.clamp.Reads as clamp_contract
use Rattle.curve.specs.contracts.curve as curve
use Rattle.curve.proofs.curve.Kinds as curve_kinds
use Rattle.curve.proofs.curve.Reads as curve_contract
use Rattle.reader.specs.contracts.read as read
use Rattle.reader.proofs.read.Kinds as read_kinds
use Rattle.reader.proofs.read.Reads as read_contract
use Rattle.writer.specs.contracts.write as write
use Rattle.writer.proofs.write.Kinds as write_kinds
use Rattle.writer.proofs.write.Reads as write_contract
use Rattle.calls.proofs.LentBytes.{called}
use Rattle.calls.specs.Buffers.{buffers}
use Rattle.calls.specs.WhatCallsLeave.{DevelopLeaves, ClampLeaves, CurveLeaves, ReadLeaves, ReadCalled, WriteLeaves}

-- clamp(plane, clamped)
pub clamp_asks_nothing : (κs : Lfts 2) (a : ArgsD clamp.signature κs) → clamp_contract.Asked κs a
clamp_asks_nothing κs a = tt

pub clamp_leaves : (κs : Lfts 2) (a : ArgsD clamp.signature κs) (r : ResD clamp.signature κs)
    (s : AtExit (ended_of 2 clamp_kinds.ps clamp_kinds.r) κs)
    → clamp_contract.Learnt κs a r s ↔ ClampLeaves a.0.now a.1.0.now r s.1.0.now
clamp_leaves κs a r s = (λ p. p, λ q. q)

-- curve(plane, curved)
pub curve_asks_nothing : (κs : Lfts 2) (a : ArgsD curve.signature κs) → curve_contract.Asked κs a
curve_asks_nothing κs a = tt

pub curve_leaves : (κs : Lfts 2) (a : ArgsD curve.signature κs) (r : ResD curve.signature κs)
    (s : AtExit (ended_of 2 curve_kinds.ps curve_kinds.r) κs)
    → curve_contract.Learnt κs a r s ↔ CurveLeaves a.0.now a.1.0.now r s.1.0.now
curve_leaves κs a r s = (λ p. p, λ q. q)

-- read(file, samples)
pub read_asks_nothing : (κs : Lfts 2) (a : ArgsD read.signature κs) → read_contract.Asked κs a
read_asks_nothing κs a = tt

pub read_leaves : (κs : Lfts 2) (a : ArgsD read.signature κs) (r : ResD read.signature κs)
    (s : AtExit (ended_of 2 read_kinds.ps read_kinds.r) κs)
    → read_contract.Learnt κs a r s ↔ ReadLeaves a.0.now a.1.0.now r s.1.0.now
read_leaves κs a r s = (λ p. p, λ q. q)

-- what the language has of a call of read, what its arguments' types own at the beginning and what its contract tells at
-- the end, is a `ReadCalled`: the type of the file says that its entries are bytes
pub read_called : (w : World) (κs : Lfts 2) (a : ArgsD read.signature κs) (r : ResD read.signature κs)
    (s : AtExit (ended_of 2 read_kinds.ps read_kinds.r) κs)
    → ent w.𝓤 (conj w.𝓤 (In read.signature κs a w) (fact w.𝓤 (read_contract.Learnt κs a r s)))
    (fact w.𝓤 (ReadCalled a.0.now a.1.0.now r s.1.0.now))
read_called w κs a r s =
    called w read.signature.result κs a (λ bytes learnt. record { bytes = bytes; leaves = (read_leaves κs a r s).0 learnt })

-- write(shape, mosaic, file)
pub write_asks_nothing : (κs : Lfts 2) (a : ArgsD write.signature κs) → write_contract.Asked κs a
write_asks_nothing κs a = tt

pub write_leaves : (κs : Lfts 2) (a : ArgsD write.signature κs) (r : ResD write.signature κs)
    (s : AtExit (ended_of 2 write_kinds.ps write_kinds.r) κs)
    → write_contract.Learnt κs a r s ↔ WriteLeaves (frame a.0 a.1.0.now) a.1.1.0.now r s.1.1.0.now
write_leaves κs a r s = (λ p. p, λ q. q)

-- develop(shape, black, mosaic, red, green, blue, map, work)
pub develop_asks_nothing : (κs : Lfts 6) (a : ArgsD develop.signature κs) → develop_contract.Asked κs a
develop_asks_nothing κs a = tt

pub develop_leaves : (κs : Lfts 6) (a : ArgsD develop.signature κs) (r : ResD develop.signature κs)
    (s : AtExit (ended_of 6 develop_kinds.ps develop_kinds.r) κs)
    → develop_contract.Learnt κs a r s ↔ DevelopLeaves (frame a.0 a.1.1.0.now) a.1.0
    (buffers a.1.1.1.0.now a.1.1.1.1.0.now a.1.1.1.1.1.0.now
    a.1.1.1.1.1.1.0.now a.1.1.1.1.1.1.1.0.now)
    r
    (buffers s.1.1.1.0.now s.1.1.1.1.0.now s.1.1.1.1.1.0.now
    s.1.1.1.1.1.1.0.now s.1.1.1.1.1.1.1.0.now)
develop_leaves κs a r s = (λ p. p, λ q. q)
