-- From the outputs of a row in half rows to a row of a plane. Assumes nothing.
use Rattle.std.specs.Prelude.{◌≡◌, refl, List, ℕ, ◌+◌, ◌*◌, ◌-◌, ◌≤◌, ℤ, pos, length}
use Rattle.std.proofs.Common.{sym, ap, arith}
use Rattle.toolkit.specs.Writes.{Wrote, wrote_as}
use Rattle.frame.specs.Sites.{Colour, green, frame}
use Rattle.frame.specs.Colours.{trade}
use Rattle.frame.specs.declared.Shape.{Shape}
use Rattle.positions.specs.Rings.{place_in_ring}
use Rattle.positions.specs.HalfRows.{chroma_start, half_count, chroma_count}
use Rattle.positions.specs.HalfRowLaws.{chroma_small, chroma_count_is}
use Rattle.positions.specs.Places.{area, row_end}
use Rattle.records.specs.Quantities.{outputs}
use Rattle.records.specs.SiteColours.{row_colour}
use Rattle.out_rows.specs.RowPlaces.{RowOf}
use Rattle.out_rows.specs.Woven.{woven}
use Rattle.out_stage.specs.OutRows.{ChromaHalf, GreenHalf, DifferencesFormed, OutputsFormed, PlaneRow, OutStores}
use Rattle.out_stage.specs.HalfLaws.{half_as, woven_half}
use Rattle.out_stage.specs.RowOutputs.{outputs_read}

-- where row i starts in a plane
pub row_start : (shape : Shape) (i : ℕ) → RowOf shape i → i * shape.width ≤ 16777216
row_start shape i r = omega (arith, row_end shape.height shape.width i r.inside, area shape.height shape.width r.low r.narrow)

module _ (shape : Shape) (i start : ℕ) (r : RowOf shape i) (e : start ≡ chroma_start shape.phase i) where
  small : start ≤ 1
  small = rw e (chroma_small shape.phase i)

  -- what `weave` asks
  pub weave_asked : (plane : List ℤ) → length plane ≡ shape.height * shape.width
      → (start ≤ 1) × (2 ≤ shape.width) × (shape.width ≤ 4096) × (i * shape.width + shape.width ≤ length plane) × (length plane ≤ 67108864)
  weave_asked plane s = (
    small,
    r.wide,
    r.narrow,
    rw s (row_end shape.height shape.width i r.inside),
    omega (arith, area shape.height shape.width r.low r.narrow),
  )

  -- two half rows of one quantity
  woven_row : (zs : List ℕ) (q : ℕ → ℕ → ℤ) (u v : List ℤ) {old new : List ℤ} → ChromaHalf (frame shape zs) i q u
      → GreenHalf (frame shape zs) i q v
      → Wrote (pos 0) (i * shape.width) shape.width (woven start u v) old new → Wrote (pos 0) (i * shape.width) shape.width (q i) old new
  woven_row zs q u v hu hv w =
      let n : chroma_count (frame shape zs) i ≡ half_count shape.width start = sym (chroma_count_is (frame shape zs) i start e) in
      wrote_as w refl (λ j h. woven_half shape.width start (q i) u v j r.wide small (half_as shape.width (q i) (sym e) n hu)
      (half_as shape.width (q i) (ap (λ (k : ℕ). 1 - k) (sym e)) (ap (λ (k : ℕ). shape.width - k) n) hv) h)

  module _ (zx zg xg xo x y old new : List ℤ) where
    pub green_row : Wrote (pos 0) (i * shape.width) shape.width (woven start xg zg) old new → PlaneRow shape i green zx zg xg xo x y old new
    green_row w = record { row = λ b zs o. woven_row zs (outputs (frame shape zs) b green) xg zg o.chroma_green o.green_green w }

    -- the plane of the colour that the row has beside green, and that of the other
    pub own_row : (c : Colour) → row_colour shape.phase i ≡ c → Wrote (pos 0) (i * shape.width) shape.width (woven start zx x) old new
        → PlaneRow shape i c zx zg xg xo x y old new
    own_row c k w =
        rw (← k) (record {
          row = λ b zs o. woven_row zs (outputs (frame shape zs) b (row_colour shape.phase i)) zx x o.chroma_own o.green_own w;
        })

    pub other_row : (c : Colour) → trade (row_colour shape.phase i) ≡ c
        → Wrote (pos 0) (i * shape.width) shape.width (woven start xo y) old new → PlaneRow shape i c zx zg xg xo x y old new
    other_row c k w =
        rw (← k) (record {
          row = λ b zs o. woven_row zs (outputs (frame shape zs) b (trade (row_colour shape.phase i))) xo y o.chroma_other o.green_other w;
        })

-- the steps of the line, one after the other
pub out_stored : {shape : Shape} {black i base at : ℕ} {c : Colour} {rows : List ℕ}
    {tops work own other x y zx zg xg xo x' y' old new : List ℤ}
    → DifferencesFormed shape i base tops work own other x y → at ≡ place_in_ring i * 4112
    → OutputsFormed shape black i at rows own other x y zx zg xg xo x' y'
    → PlaneRow shape i c zx zg xg xo x' y' old new
    → OutStores shape black i base c rows tops work old new
out_stored {black = black} d e o p = record {
  row = λ zs lent. p.row black zs (o.row zs (outputs_read lent e (d.row zs lent.reads)));
}
