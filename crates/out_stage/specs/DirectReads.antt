-- What the row of means is handed: its gradients and values are those of the green sites of row i, and it gives their differences.
-- Assumes nothing.
use Rattle.std.specs.Prelude.{◌≡◌, refl, ℕ, ◌+◌, ◌*◌, ◌-◌, ◌/◌, ◌<◌, ◌≤◌, min, ℤ, pos, neg_ℤ, ◌+ℤ◌, length}
use Rattle.std.proofs.Math.Path.{sym, ap₂}
use Rattle.std.proofs.Common.{◌∙◌, ap, subst, arith}
use mathlib.Core.List.{List}
use Rattle.std.proofs.Math.IntN.{sub_ℕ}
use Rattle.toolkit.specs.Entries.{Entries}
use Rattle.frame.specs.Sites.{frame, reflect}
use Rattle.frame.specs.Colours.{trade}
use Rattle.frame.proofs.Colours.{trade_twice}
use Rattle.frame.specs.declared.Shape.{Shape}
use Rattle.frame.proofs.Reflection.{reflect_here, reflect_lt}
use Rattle.method.specs.Gradients.{FourDirections, mosaic, gradients_at}
use Rattle.method.specs.Four.{directions, sizes, listed}
use Rattle.method.proofs.ColourLaws.{directions_path}
use Rattle.method.specs.Planes.{straight_gradients, mean_under, colour_difference}
use Rattle.method.specs.Sizes.{AtMost}
use Rattle.method.proofs.Sizes.{listed_naturals}
use Rattle.positions.specs.Taken.{Taken}
use Rattle.positions.specs.Rings.{place_in_ring}
use Rattle.positions.specs.RingLaws.{ring_end}
use Rattle.positions.specs.HalfRows.{chroma_start, half_count, chroma_count}
use Rattle.positions.specs.HalfRowLaws.{chroma_small, count_high, count_half, rest_half, chroma_count_is}
use Rattle.positions.specs.Near.{near_south, near_north, north_step, north_odd, south_odd}
use Rattle.records.specs.Layout.{record_size, final_part, other_part}
use Rattle.records.specs.Quantities.{finals, others}
use Rattle.records.specs.Stages.{ChromaKept, Lent, OutReads}
use Rattle.records.specs.SiteColours.{row_colour}
use Rattle.half_rows.specs.Beside.{half_around, row_near_odd}
use Rattle.half_rows.specs.Sources.{north_entry, four_entries}
use Rattle.half_rows.specs.SiteGradients.{gradients_most, record_end, work_most, site_gradients_second}
use Rattle.out_rows.specs.declared.Places.{Places}
use Rattle.out_rows.specs.RowPlaces.{Placed}
use Rattle.out_rows.specs.DirectMeans.{beside_values, own_values, other_values, own_mean, other_mean, DirectReads}
use Rattle.out_stage.specs.SiteOutputs.{own_difference, other_difference}
use Rattle.out_stage.specs.OutRows.{WideHalf}
use Rattle.out_stage.specs.DirectDifferences.{finals_size, others_size, east_step, west_step, beside_room, green_column, final_room, other_room, four_beside, four_beside_size, mean_beside}

-- ---- the places of a row
module _ (shape : Shape) (zs : List ℕ) (i : ℕ) (p : Places) (placed : Placed shape i p) where
  pub start_small : p.start ≤ 1
  start_small = rw placed.start_is (chroma_small shape.phase i)

  pub count_chroma : p.count ≡ chroma_count (frame shape zs) i
  count_chroma = placed.count_is ∙ chroma_count_is (frame shape zs) i p.start placed.start_is

  pub rest_green : p.rest ≡ shape.width - chroma_count (frame shape zs) i
  rest_green = placed.rest_is ∙ ap (λ (k : ℕ). shape.width - k) count_chroma

  rest_other : p.rest ≡ shape.width - half_count shape.width p.start
  rest_other = placed.rest_is ∙ ap (λ (k : ℕ). shape.width - k) placed.count_is

  rest_room : p.rest ≤ (shape.width + 1) / 2
  rest_room = rw rest_other (rest_half shape.width p.start start_small)

  count_room : p.count ≤ (shape.width + 1) / 2
  count_room = rw placed.count_is (count_half shape.width p.start)

  pub count_few : shape.width ≤ 4096 → p.count ≤ 2048
  count_few h = omega (arith, count_room)

  pub rest_few : shape.width ≤ 4096 → p.rest ≤ 2048
  rest_few h = omega (arith, rest_room)

  count_inside : p.count ≤ shape.width
  count_inside = rw placed.count_is (count_high shape.width p.start)

  pub both_inside : p.count + p.rest ≤ shape.width
  both_inside = omega (arith, placed.rest_is, count_inside)

  module _ (base : ℕ) (tops work : List ℤ) (reads : OutReads (frame shape zs) i base tops work) where
    abbrev lent : Lent (frame shape zs) i base tops work
    lent = reads.reads.lent

    abbrev taken : Taken (frame shape zs)
    taken = lent.taken

    -- the record of any row lies in work
    row_room : (r : ℕ) → r < shape.height → place_in_ring r * record_size shape.width + record_size shape.width ≤ length work
    row_room r h = omega (arith, lent.work_size, ring_end shape.height (record_size shape.width) r h)

    in_frame : (x : ℤ) → reflect shape.height x < shape.height
    in_frame x = reflect_lt shape.height x taken.tall

    -- the differences of the row itself
    pub finals_inside : p.here.finals + p.count ≤ length work
    finals_inside = rw placed.finals_is (final_room shape.width p.count _ (place_in_ring i) taken.wide count_room (row_room i lent.inside))

    pub others_inside : p.here.others + p.count ≤ length work
    others_inside = rw placed.others_is (other_room shape.width p.count _ (place_in_ring i) taken.wide count_room (row_room i lent.inside))

    -- the values beside green site k, of q in row i and of q' in the rows one off, read from entry o of their records on
    beside_are : (q q' : ℕ → ℕ → ℤ) (row : List ℤ) (o south north k : ℕ)
        → WideHalf shape.width p (q i) row
        → ChromaKept (frame shape zs) o (i - 1) (min (i + 2) shape.height) q' work
        → south ≡ place_in_ring (reflect shape.height (pos (i + 1))) * record_size shape.width + o
        → north ≡ place_in_ring (reflect shape.height (sub_ℕ i 1)) * record_size shape.width + o → k < p.rest
        → directions (beside_values row p.start work south north k) ≡
        four_beside (frame shape zs) q q' i (1 - chroma_start shape.phase i + 2 * k)
    beside_are q q' row o south north k half held es en l =
        let H = shape.height in
        let W = shape.width in
        let j : ℕ = 1 - chroma_start shape.phase i + 2 * k in
        let here : i ≡ reflect H (pos i +ℤ pos 0) = sym (reflect_here H i taken.tall lent.inside) in
        let s = near_south H i 1 taken.tall lent.inside in
        let u = near_north H i 1 taken.tall lent.inside in
        let room : k + 4 - p.start + 1 < half_count W p.start + 4 + 1 = beside_room W p.start k start_small (omega (arith, rest_other)) in
        directions_path
        (half_around H W p.start 3 (half_count W p.start + 4 + 1) q row i half (k + 4 - p.start + 1) i j (pos 0) (pos 1)
        (omega (arith, start_small)) room here (east_step p.start (chroma_start shape.phase i) k placed.start_is start_small))
        (half_around H W p.start 3 (half_count W p.start + 4 + 1) q row i half (k + 4 - p.start) i j (pos 0) (neg_ℤ (pos 1))
        (omega (arith, start_small)) (omega arith) here (west_step p.start (chroma_start shape.phase i) k placed.start_is start_small))
        (row_near_odd (frame shape zs) place_in_ring (record_size W) o (i - 1) (min (i + 2) H) q' work taken.wide held
        (reflect H (pos (i + 1))) i k south (pos 1) refl s.0 (omega (arith, s.1, s.2))
        (south_odd H i taken.tall) (omega (arith, rest_green)) es)
        (row_near_odd (frame shape zs) place_in_ring (record_size W) o (i - 1) (min (i + 2) H) q' work taken.wide held
        (reflect H (sub_ℕ i 1)) i k north (neg_ℤ (pos 1)) (ap (reflect H) (north_step i 1)) u.0 (omega (arith, u.1, u.2))
        (north_odd H i taken.tall) (omega (arith, rest_green)) en)

    module _ (n own other : List ℤ)
        (norths : Entries (pos 0) 2064 4 (p.rest + 4) (λ (x : ℕ). north_entry tops work shape.width i (p.count + (x - 4))) n)
        (own_half : WideHalf shape.width p (finals (frame shape zs) i) own)
        (other_half : WideHalf shape.width p (others (frame shape zs) i) other) where
      gradients_are : (k : ℕ) → k < p.rest
          → four_entries work p.east p.south n k ≡ listed (gradients_at (mosaic (frame shape zs)) i (1 - chroma_start shape.phase i + 2 * k))
      gradients_are k l = site_gradients_second (frame shape zs) i tops work reads.reads.gradients n p.east p.south p.rest p.count k
          (placed.east_is ∙ ap (λ (x : ℕ). place_in_ring i * record_size shape.width + (x + 1)) count_chroma)
          (placed.south_is ∙ ap (λ (x : ℕ). place_in_ring i * record_size shape.width + (shape.width + 2) + x) count_chroma)
          rest_green count_chroma norths (omega (arith, rest_green))

      own_beside : (k : ℕ) → k < p.rest
          → directions (own_values p work own k) ≡
          four_beside (frame shape zs) (finals (frame shape zs)) (others (frame shape zs)) i (1 - chroma_start shape.phase i + 2 * k)
      own_beside k l =
          beside_are (finals (frame shape zs)) (others (frame shape zs)) own (other_part shape.width) p.below.others p.above.others k
          own_half reads.others_held placed.others_south_is placed.others_north_is l

      other_beside : (k : ℕ) → k < p.rest
          → directions (other_values p work other k) ≡
          four_beside (frame shape zs) (others (frame shape zs)) (finals (frame shape zs)) i (1 - chroma_start shape.phase i + 2 * k)
      other_beside k l =
          beside_are (others (frame shape zs)) (finals (frame shape zs)) other (final_part shape.width) p.below.finals p.above.finals k
          other_half reads.reads.finals_held placed.finals_south_is placed.finals_north_is l

      -- what the row of means asks
      pub direct_reads : DirectReads p work n own other
      direct_reads = record {
        gradients = record {
          few = rest_few taken.narrow;
          east_in = omega (arith, placed.east_is, placed.rest_is, count_inside, record_end _ _ _ _ _ lent, taken.wide);
          south_in = omega (arith, placed.south_is, placed.rest_is, count_inside, record_end _ _ _ _ _ lent, taken.wide);
          most = work_most _ _ _ _ _ lent;
          each = λ k l. listed_naturals _ (gradients_are k l) (gradients_most (frame shape zs) i _ taken);
        };
        start_small = start_small;
        finals_south_inside = rw placed.finals_south_is (final_room shape.width p.rest _ _ taken.wide rest_room (row_room _ (in_frame _)));
        finals_north_inside = rw placed.finals_north_is (final_room shape.width p.rest _ _ taken.wide rest_room (row_room _ (in_frame _)));
        others_south_inside = rw placed.others_south_is (other_room shape.width p.rest _ _ taken.wide rest_room (row_room _ (in_frame _)));
        others_north_inside = rw placed.others_north_is (other_room shape.width p.rest _ _ taken.wide rest_room (row_room _ (in_frame _)));
        own_small = λ k l. subst (λ (v : FourDirections ℤ). AtMost 4096 (sizes v)) (sym (own_beside k l))
            (four_beside_size (frame shape zs) taken _ _ i _ (finals_size (frame shape zs) taken) (others_size (frame shape zs) taken));
        other_small = λ k l. subst (λ (v : FourDirections ℤ). AtMost 4096 (sizes v)) (sym (other_beside k l))
            (four_beside_size (frame shape zs) taken _ _ i _ (others_size (frame shape zs) taken) (finals_size (frame shape zs) taken));
      }

      -- what it gives
      pub own_means : (k : ℕ) → k < p.rest
          → own_mean p work n own k ≡
          colour_difference (mosaic (frame shape zs)) (row_colour shape.phase i) i (1 - chroma_start shape.phase i + 2 * k)
      unfolding finals mosaic
      own_means k l =
          let f = frame shape zs in
          ap₂ (mean_under straight_gradients) (ap (λ (g : List ℤ). sizes (directions g)) (gradients_are k l)) (own_beside k l)
          ∙ mean_beside f taken (row_colour shape.phase i) (finals f) (others f) i _ (green_column _ k (chroma_small shape.phase i))
          (λ a b e. own_difference (mosaic f) _ a b e) (λ a b e. other_difference f _ a b e)

      pub other_means : (k : ℕ) → k < p.rest
          → other_mean p work n other k ≡
          colour_difference (mosaic (frame shape zs)) (trade (row_colour shape.phase i)) i (1 - chroma_start shape.phase i + 2 * k)
      unfolding finals mosaic
      other_means k l =
          let f = frame shape zs in
          ap₂ (mean_under straight_gradients) (ap (λ (g : List ℤ). sizes (directions g)) (gradients_are k l)) (other_beside k l)
          ∙ mean_beside f taken (trade (row_colour shape.phase i)) (others f) (finals f) i _ (green_column _ k (chroma_small shape.phase i))
          (λ a b e. other_difference f _ a b (e ∙ sym (trade_twice (row_colour shape.phase i)))) (λ a b e. own_difference (mosaic f) _ a b e)

-- how large a row's halves are, and that its own differences lie in work
pub ruleset place_laws = (start_small, count_few, rest_few, both_inside, finals_inside, others_inside)
