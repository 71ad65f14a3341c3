-- The row of the map that the second pass stores: at a red or blue site the code of its decision, 0 at a green site. Assumes nothing.
use Rattle.std.specs.Prelude.{◌≡◌, refl, List, ℕ, ◌+◌, ◌*◌, ◌-◌, ◌/◌, ◌%◌, ◌<◌, ltb, eqb, ℤ}
use Rattle.std.proofs.Math.Path.{sym, ap}
use Rattle.std.proofs.Common.{◌∙◌, true≢false}
use Rattle.std.proofs.Math.Bool.{false, cond}
use native.Mathlib.Omega.{arith}
use Rattle.std.proofs.Math.ListN.{get_or}
use Rattle.toolkit.specs.Entries.{Entries}
use Rattle.toolkit.specs.Tests.{by_test, eqb_eq, eqb_ne}
use Rattle.toolkit.specs.Writes.{Wrote, wrote_as}
use Rattle.frame.specs.Sites.{Frame, Colour, red, green, blue, colour}
use Rattle.frame.specs.Colours.{is_green}
use Rattle.method.specs.Settings.{reach}
use Rattle.method.specs.Gradients.{mosaic}
use Rattle.method.specs.Green.{Direction, Outcome, equal, strong_across, strong_down, weak, outcome_at, second_pass_at}
use Rattle.method.specs.Green.{Decision, decision_code, decided, chroma_decision_at, decision_of, decision_at, decision_entry}
use Rattle.positions.specs.HalfRows.{chroma_start, half_count, chroma_count, chroma_row}
use Rattle.positions.specs.HalfRowLaws.{chroma_small}
use Rattle.records.specs.Quantities.{first_code, first_codes, decisions}
use Rattle.records.specs.SiteColours.{row_not_green, chroma_colour, second_half_green}
use Rattle.records.specs.Stages.{SecondLent}
use Rattle.sums.specs.Sums.{Sums}
use Rattle.second_pass.specs.Picked.{code_entry, map_entry}
use Rattle.second_pass.specs.Picking.{picked_as}

-- the first pass's code, and at a weak site the second's
code_resolved : (o : Outcome) (k : Direction)
    → cond (ltb (first_code o) 4) (first_code o) (decision_code (decided weak k))
    ≡ decision_code (decided o k)
code_resolved equal k = refl
code_resolved strong_across k = refl
code_resolved strong_down k = refl
code_resolved weak k = refl

-- a decision stands where the site is not green
chroma_stands : (c : Colour) (d : Decision) → is_green c ≡ false → decision_of c d ≡ d
chroma_stands red d e = refl
chroma_stands green d e = absurd (true≢false e)
chroma_stands blue d e = refl

module _ (f : Frame) (i : ℕ) (diagonals verticals fh fv fd : List ℤ) (map codes : List ℕ) (lent : SecondLent f i diagonals verticals map)
    (sums : Sums f reach i fh fv fd) (formed : Entries 0 2048 0 (chroma_count f i) (code_entry fh fv fd (i * f.width) map) codes) where
  abbrev start : ℕ
  start = chroma_start f.phase i

  -- at a red or blue site
  code_at : (k : ℕ) → k < chroma_count f i → get_or codes k 0 ≡ decision_code (chroma_decision_at (mosaic f) i (start + 2 * k))
  unfolding code_entry chroma_row first_codes chroma_decision_at
  code_at k h =
      let back : k + 4 - 4 ≡ k = omega arith in
      let place : i * f.width + k ≡ i * f.width + 0 + k = omega arith in
      let first = ap (λ (n : ℕ). get_or map n 0) place ∙ lent.codes.row i (omega arith) (omega arith) k h in
      let second = picked_as f i fh fv fd sums (λ d. decision_code (decided weak d)) (k + 4) (omega arith) (omega arith)
      ∙ ap (λ (n : ℕ). decision_code (decided weak (second_pass_at (mosaic f) i (start + 2 * n)))) back in
      formed.at k (omega arith) h
      ∙ (resolved first second ∙ code_resolved (outcome_at (mosaic f) i (start + 2 * k)) (second_pass_at (mosaic f) i (start + 2 * k)))
    where
      resolved : {a b c d : ℕ} → a ≡ c → b ≡ d → cond (ltb a 4) a b ≡ cond (ltb c 4) c d
      resolved p q = rw (p, q)

  entry_at : (c j : ℕ) → c ≡ start → j < f.width → map_entry c codes j ≡ decisions f i j
  unfolding map_entry decisions decision_entry decision_at chroma_count half_count mosaic
  entry_at c j e h = by_test (eqb (j % 2) c) _
      (λ t.
      let p : j % 2 ≡ c = eqb_eq _ _ t in
      let q : start + 2 * (j / 2) ≡ j = omega (arith, chroma_small f.phase i) in
      let l : j / 2 < (f.width + 1 - start) / 2 = omega (arith, chroma_small f.phase i) in
      let chroma : is_green (colour f.phase i j) ≡ false =
      ap is_green (chroma_colour f.phase i j (p ∙ e)) ∙ row_not_green f.phase i in
      rw t (code_at (j / 2) l ∙ ap (λ (n : ℕ). decision_code (chroma_decision_at (mosaic f) i n)) q
      ∙ ap decision_code (sym (chroma_stands (colour f.phase i j) (chroma_decision_at (mosaic f) i j) chroma))))
      (λ t. let n : ¬ (j % 2 ≡ c) = eqb_ne t in
      rw (t, second_half_green f.phase i j (λ g. n (g ∙ sym e))))

  pub map_stored : (c : ℕ) {new : List ℕ} → c ≡ start → Wrote 0 (i * f.width) f.width (map_entry c codes) map new
      → Wrote 0 (i * f.width) f.width (decisions f i) map new
  map_stored c e w = wrote_as w refl (λ j h. entry_at c j e h)
