-- A piece put into a text from position `at` on, and the position `next` behind it; what stands before and behind the piece stays.
-- Assumes nothing.
use Rattle.std.specs.Prelude.{◌≡◌, refl, List, [], ◌∷◌, ◌++◌, ℕ, suc, ◌+◌, ◌≤◌, length, take, drop, set}
use Rattle.std.proofs.Common.{sym, ◌∙◌, ap, ap₂, append_assoc, arith, length-append, length-take-le, take_at}
use Rattle.std.proofs.lemmas.List.{set_split}
use Rattle.frame_file.specs.Lists.{put_at, length_put_at, put_at_next}

pub record Put (old : List ℕ) (at : ℕ) (piece new : List ℕ) (next : ℕ) : Type 0 where
  pub placed : new ≡ put_at old at piece
  pub behind : next ≡ at + length piece

pub put_one : (l : List ℕ) (a v : ℕ) → a + 1 ≤ length l → Put l a (v ∷ []) (set l a v) (a + 1)
unfolding put_at
put_one l a v h = record {
  placed = let e : a + 1 ≡ suc a = omega arith in rw e (set_split l a v (omega arith));
  behind = refl;
}

-- a piece, and another behind it
pub put_then : {old mid new piece second : List ℕ} {at b next : ℕ} → at + length piece ≤ length old → Put old at piece mid b
    → Put mid b second new next → Put old at (piece ++ second) new next
unfolding put_at
put_then {old} {mid} {new} {piece} {second} {at} {b} {next} h p q =
    let size : length (take at old ++ piece) ≡ at + length piece =
    length-append (take at old) piece ∙ ap (λ (k : ℕ). k + length piece) (length-take-le at old (omega arith)) in
    let first : mid ≡ (take at old ++ piece) ++ drop (at + length piece) old = p.placed ∙ sym (append_assoc (take at old) piece (drop (at + length piece) old)) in
    let sum : (at + length piece) + length second ≡ at + length (piece ++ second) = omega (arith, length-append piece second) in
    record {
      placed =
          q.placed
          ∙ (ap₂ (λ (l : List ℕ) (k : ℕ). put_at l k second) first p.behind
          ∙ (put_at_next (take at old ++ piece) old second (at + length piece) size
          ∙ rw (sum) (simp append_assoc)));
      behind = q.behind ∙ (ap (λ (k : ℕ). k + length second) p.behind ∙ sum);
    }

-- the same piece told otherwise
pub put_as : {old new piece same : List ℕ} {at next : ℕ} → piece ≡ same → Put old at piece new next → Put old at same new next
put_as e p = rw (← e) p

-- the text keeps its length
pub put_length : {old new piece : List ℕ} {at next : ℕ} → at + length piece ≤ length old → Put old at piece new next → length new ≡ length old
put_length {old} {new} {piece} {at} h p = ap length p.placed ∙ length_put_at old at piece h

-- a piece put in front: the text begins with it
pub put_front : {old new piece : List ℕ} {next : ℕ} → Put old 0 piece new next → take next new ≡ piece
unfolding put_at
put_front {old} {new} {piece} {next} p = rw p.placed (take_at piece _ next (omega (arith, p.behind)))

pub front_inside : {old new piece : List ℕ} {next : ℕ} → Put old 0 piece new next → next ≤ length new
unfolding put_at
front_inside {old} {new} {piece} {next} p =
    omega (arith, p.behind, ap length p.placed, length-append piece (drop (0 + length piece) old))
