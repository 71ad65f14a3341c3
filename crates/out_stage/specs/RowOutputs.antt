-- From both differences of a row to its outputs. Assumes nothing.
use Rattle.std.specs.Prelude.{◌≡◌, refl, false, List, ℕ, ◌+◌, ◌*◌, ◌-◌, ◌%◌, ◌<◌, ◌≤◌, ℤ, nat_abs, ◌+ℤ◌, ◌-ℤ◌, ◌*ℤ◌, get_or}
use Rattle.std.proofs.Math.Path.{sym}
use Rattle.std.proofs.Common.{◌∙◌, ap, arith, lit≤}
use Rattle.std.proofs.Math.Nat.{le_trans}
use Rattle.std.proofs.Math.IntN.{pos}
use Rattle.toolkit.specs.Entries.{Entries}
use Rattle.frame.specs.Sites.{Frame, highest_sample, Colour, red, green, blue, sample}
use Rattle.frame.specs.Colours.{trade, is_green}
use Rattle.frame.proofs.Colours.{trade_twice}
use Rattle.method.specs.Gradients.{mosaic}
use Rattle.method.specs.Planes.{colour_difference, final_round, less_black}
use Rattle.method.proofs.Sizes.{colour_difference_size}
use Rattle.positions.specs.Taken.{Taken}
use Rattle.positions.specs.Rings.{place_in_ring}
use Rattle.positions.specs.HalfRows.{chroma_start, chroma_count, Half}
use Rattle.positions.specs.HalfRowLaws.{chroma_small}
use Rattle.records.specs.Quantities.{finals, others, outputs}
use Rattle.records.specs.SiteColours.{row_colour, row_not_green, chroma_colour, second_half_green}
use Rattle.half_rows.specs.Sources.{Sized}
use Rattle.out_stage.specs.SiteOutputs.{measured_output, green_output, other_output, missing_output, other_difference}
use Rattle.out_stage.specs.DirectDifferences.{finals_size, others_size}
use Rattle.out_stage.specs.RowDifferences.{chroma_columns, green_columns}
use Rattle.out_stage.specs.OutRows.{GreenHalf, RowDifferences, RowOutputs, OutputsRead, OutLent}
use Rattle.out_stage.specs.HalfLaws.{half_as, half_same, half_of_three, half_bounded, samples_half}

-- what the outputs are formed from, where row i stands at its place of the ring
pub outputs_read : {f : Frame} {i base at : ℕ} {rows : List ℕ} {tops work own other x y : List ℤ} → OutLent f i base rows tops work
    → at ≡ place_in_ring i * 4112 → RowDifferences f i own other x y → OutputsRead f i at rows own other x y
outputs_read lent e d = record {
  taken = lent.reads.reads.lent.taken;
  inside = lent.reads.reads.lent.inside;
  row = rw e lent.row;
  differences = d;
}

traded_not_green : (c : Colour) → is_green c ≡ false → is_green (trade c) ≡ false
traded_not_green red e = refl
traded_not_green green e = e
traded_not_green blue e = refl

-- what the loops ask of the half rows
pub record RowBounded (n m : ℕ) (own other zx zg x y : List ℤ) : Type 0 where
  pub own_small : Sized 4096 4 (n + 4) own
  pub other_small : Sized 4096 4 (n + 4) other
  pub zx_small : Sized 4096 4 (n + 4) zx
  pub zg_small : Sized 4096 4 (m + 4) zg
  pub x_small : Sized 4096 4 (m + 4) x
  pub y_small : Sized 4096 4 (m + 4) y

-- the code's black level is b
less : {b : ℕ} {black v w : ℤ} → black ≡ pos b → v ≡ w → v -ℤ black ≡ less_black b w
unfolding less_black
less level e = rw (level, e)

-- ---- a site of the row, at black level b
module _ (f : Frame) (i j b : ℕ) {black : ℤ} (level : black ≡ pos b) where
  abbrev own : Colour
  own = row_colour f.phase i

  -- red and blue sites
  module _ (site : j % 2 ≡ chroma_start f.phase i) where
    chroma_measured : pos (sample f i j) -ℤ black ≡ outputs f b own i j
    unfolding outputs mosaic
    chroma_measured = less level (measured_output (mosaic f) own i j (chroma_colour f.phase i j site))

    chroma_green : final_round (finals f i j +ℤ pos 4 *ℤ pos (sample f i j)) -ℤ black ≡ outputs f b green i j
    unfolding outputs finals mosaic
    chroma_green = less level (green_output (mosaic f) i j (ap is_green (chroma_colour f.phase i j site) ∙ row_not_green f.phase i))

    chroma_other : final_round (finals f i j +ℤ pos 4 *ℤ pos (sample f i j) -ℤ others f i j) -ℤ black ≡ outputs f b (trade own) i j
    unfolding outputs finals mosaic
    chroma_other =
        let e = chroma_colour f.phase i j site ∙ sym (trade_twice own) in
        less level
        (ap (λ (o : ℤ). final_round (finals f i j +ℤ pos 4 *ℤ pos (sample f i j) -ℤ o)) (other_difference f (trade own) i j e)
        ∙ other_output (mosaic f) (trade own) i j (traded_not_green own (row_not_green f.phase i)) e)

  -- green sites
  module _ (site : ¬ (j % 2 ≡ chroma_start f.phase i)) where
    green_measured : pos (sample f i j) -ℤ black ≡ outputs f b green i j
    unfolding outputs mosaic
    green_measured = less level (measured_output (mosaic f) green i j (second_half_green f.phase i j site))

    green_missing : (c : Colour) → is_green c ≡ false
        → final_round (pos 4 *ℤ pos (sample f i j) -ℤ colour_difference (mosaic f) c i j) -ℤ black ≡ outputs f b c i j
    unfolding outputs mosaic
    green_missing c h = less level (missing_output (mosaic f) c i j h (second_half_green f.phase i j site))

-- ---- the row, whose first half starts at column c and has n sites, its second m
module _ (f : Frame) (i at c n m : ℕ) (ec : c ≡ chroma_start f.phase i) (en : n ≡ chroma_count f i) (em : m ≡ f.width - chroma_count f i)
    (rows : List ℕ) (own other zx zg x y : List ℤ) (reads : OutputsRead f i at rows own other x y)
    (sx : Entries (pos 0) 2064 4 (n + 4) (λ (k : ℕ). pos (get_or rows (at + (c + 2 * (k - 4) + 8)) 0)) zx)
    (sg : Entries (pos 0) 2064 4 (m + 4) (λ (k : ℕ). pos (get_or rows (at + (1 - c + 2 * (k - 4) + 8)) 0)) zg) where
  abbrev t : Taken f
  t = reads.taken

  abbrev d : RowDifferences f i own other x y
  d = reads.differences

  abbrev measured : ℕ → ℤ
  measured j = pos (sample f i j)

  abbrev difference : Colour → ℕ → ℤ
  difference k = colour_difference (mosaic f) k i

  even : 1 - chroma_start f.phase i ≡ 1 - c
  even = ap (λ (k : ℕ). 1 - k) (sym ec)

  first : (q : ℕ → ℤ) {row : List ℤ} → Half f.width (chroma_start f.phase i) 4 (chroma_count f i + 4) q row → Half f.width c 4 (n + 4) q row
  first q h = half_as f.width q (sym ec) (sym en) h

  second : (q : ℕ → ℤ) {row : List ℤ} → Half f.width (1 - chroma_start f.phase i) 4 (f.width - chroma_count f i + 4) q row
      → Half f.width (1 - c) 4 (m + 4) q row
  second q h = half_as f.width q even (sym em) h

  own_half : Half f.width c 4 (n + 4) (finals f i) own
  own_half = first (finals f i) d.chroma_own

  other_half : Half f.width c 4 (n + 4) (others f i) other
  other_half = first (others f i) d.chroma_other

  zx_half : Half f.width c 4 (n + 4) measured zx
  zx_half = samples_half f i at c n reads.row (λ k l. rw ec (chroma_columns f i k (rw (← en) l))) sx

  zg_half : Half f.width (1 - c) 4 (m + 4) measured zg
  zg_half = samples_half f i at (1 - c) m reads.row (λ k l. rw ec (green_columns f i k t.wide (rw (← em) l))) sg

  sample_size : (j : ℕ) → nat_abs (measured j) ≤ 4096
  unfolding sample highest_sample
  sample_size j = le_trans (t.ranged _) (lit≤ tt)

  difference_size : (k : Colour) (j : ℕ) → j < f.width → nat_abs (difference k j) ≤ 4096
  unfolding highest_sample
  difference_size k j h = le_trans (colour_difference_size f t.tall t.wide t.ranged k i j reads.inside h) (lit≤ tt)

  difference_bounded : (k : Colour) {row : List ℤ} → GreenHalf f i (colour_difference (mosaic f) k) row → Sized 4096 4 (m + 4) row
  difference_bounded k h = half_bounded f.width (1 - c) t.wide 4096 m (difference k) (difference_size k) (second (difference k) h)

  pub row_bounded : RowBounded n m own other zx zg x y
  row_bounded = record {
    own_small = half_bounded f.width c t.wide 4096 n (finals f i) (λ j h. finals_size f t i j reads.inside h) own_half;
    other_small = half_bounded f.width c t.wide 4096 n (others f i) (λ j h. others_size f t i j reads.inside h) other_half;
    zx_small = half_bounded f.width c t.wide 4096 n measured (λ j h. sample_size j) zx_half;
    zg_small = half_bounded f.width (1 - c) t.wide 4096 m measured (λ j h. sample_size j) zg_half;
    x_small = difference_bounded (row_colour f.phase i) d.green_own;
    y_small = difference_bounded (trade (row_colour f.phase i)) d.green_other;
  }

  first_site : (j : ℕ) → j % 2 ≡ c % 2 → j % 2 ≡ chroma_start f.phase i
  first_site j e = omega (arith, chroma_small f.phase i)

  second_site : (j : ℕ) → j % 2 ≡ (1 - c) % 2 → ¬ (j % 2 ≡ chroma_start f.phase i)
  second_site j e h = omega (arith, chroma_small f.phase i)

  first_told : (q q' : ℕ → ℤ) {row : List ℤ} → ((j : ℕ) → j % 2 ≡ chroma_start f.phase i → q j ≡ q' j) → Half f.width c 4 (n + 4) q row
      → Half f.width (chroma_start f.phase i) 4 (chroma_count f i + 4) q' row
  first_told q q' same h = half_as f.width q' ec en (half_same f.width c t.wide (λ j l e. same j (first_site j e)) h)

  second_told : (q q' : ℕ → ℤ) {row : List ℤ} → ((j : ℕ) → ¬ (j % 2 ≡ chroma_start f.phase i) → q j ≡ q' j)
      → Half f.width (1 - c) 4 (m + 4) q row → Half f.width (1 - chroma_start f.phase i) 4 (f.width - chroma_count f i + 4) q' row
  second_told q q' same h = half_as f.width q' (sym even) em (half_same f.width (1 - c) t.wide (λ j l e. same j (second_site j e)) h)

  -- ---- at black level b
  module _ (b : ℕ) {black : ℤ} (level : black ≡ pos b) where
    -- a colour at the green sites
    missing : (k : Colour) (before after : List ℤ) → is_green k ≡ false → GreenHalf f i (colour_difference (mosaic f) k) before
        → Entries (pos 0) 2064 4 (m + 4) (λ (v : ℕ). final_round (pos 4 *ℤ get_or zg v (pos 0) -ℤ get_or before v (pos 0)) -ℤ black) after
        → GreenHalf f i (outputs f b k) after
    missing k before after h d e = second_told _ (outputs f b k i) (λ j site. green_missing f i j b level site k h)
        (half_of_three f.width (1 - c) t.wide (λ (z v w : ℤ). final_round (pos 4 *ℤ z -ℤ v) -ℤ black) measured (difference k) measured
        zg_half (second (difference k) d) zg_half e)

    pub outputs_are : (xg xo x' y' zx' zg' : List ℤ)
        → Entries (pos 0) 2064 4 (n + 4) (λ (k : ℕ). final_round (get_or own k (pos 0) +ℤ pos 4 *ℤ get_or zx k (pos 0)) -ℤ black) xg
        → Entries (pos 0) 2064 4 (n + 4)
        (λ (k : ℕ). final_round (get_or own k (pos 0) +ℤ pos 4 *ℤ get_or zx k (pos 0) -ℤ get_or other k (pos 0)) -ℤ black) xo
        → Entries (pos 0) 2064 4 (m + 4) (λ (k : ℕ). final_round (pos 4 *ℤ get_or zg k (pos 0) -ℤ get_or x k (pos 0)) -ℤ black) x'
        → Entries (pos 0) 2064 4 (m + 4) (λ (k : ℕ). final_round (pos 4 *ℤ get_or zg k (pos 0) -ℤ get_or y k (pos 0)) -ℤ black) y'
        → Entries (pos 0) 2064 4 (n + 4) (λ (k : ℕ). get_or zx k (pos 0) -ℤ black) zx'
        → Entries (pos 0) 2064 4 (m + 4) (λ (k : ℕ). get_or zg k (pos 0) -ℤ black) zg'
        → RowOutputs f b i zx' zg' xg xo x' y'
    outputs_are xg xo x' y' zx' zg' eg eo ex ey ezx ezg = record {
      chroma_own = first_told _ (outputs f b (row_colour f.phase i) i) (λ j site. chroma_measured f i j b level site)
          (half_of_three f.width c t.wide (λ (z a o : ℤ). z -ℤ black) measured (finals f i) (others f i) zx_half own_half other_half ezx);
      chroma_green = first_told _ (outputs f b green i) (λ j site. chroma_green f i j b level site)
          (half_of_three f.width c t.wide (λ (a z o : ℤ). final_round (a +ℤ pos 4 *ℤ z) -ℤ black) (finals f i) measured (others f i)
          own_half zx_half other_half eg);
      chroma_other = first_told _ (outputs f b (trade (row_colour f.phase i)) i) (λ j site. chroma_other f i j b level site)
          (half_of_three f.width c t.wide (λ (a z o : ℤ). final_round (a +ℤ pos 4 *ℤ z -ℤ o) -ℤ black) (finals f i) measured (others f i)
          own_half zx_half other_half eo);
      green_green = second_told _ (outputs f b green i) (λ j site. green_measured f i j b level site)
          (half_of_three f.width (1 - c) t.wide (λ (z v w : ℤ). z -ℤ black) measured measured measured zg_half zg_half zg_half ezg);
      green_own = missing (row_colour f.phase i) x x' (row_not_green f.phase i) d.green_own ex;
      green_other = missing (trade (row_colour f.phase i)) y y' (traded_not_green (row_colour f.phase i) (row_not_green f.phase i))
          d.green_other ey;
    }
