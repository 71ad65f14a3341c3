-- Two sites far from every edge whose surroundings are alike: what a step that reads no farther answers is alike too. Assumes nothing.
use Rattle.std.specs.Prelude.{◌≡◌, ℕ, ◌+◌, ◌≤◌, ℤ, pos, nat_abs, ◌+ℤ◌}
use Rattle.std.proofs.Common.{sym, ◌∙◌, ap, arith}
use Rattle.std.proofs.Math.Path.{ap₂}
use Rattle.toolkit.specs.Differences.{as_difference}
use Rattle.toolkit.specs.Orders.{to_naturals}
use Rattle.frame.specs.Sites.{Around, reflect, around}
use Rattle.frame.proofs.Reflection.{reflect_here}
use Rattle.frame.specs.InnerSites.{margin, Inner}
use Rattle.frame.proofs.InnerSites.{inner_near, read_as_written}
use Rattle.method.specs.Gradients.{Mosaic, around_in, samples_around}
use Rattle.inner_sites.specs.Distances.{Reads, reading_distance}
use Rattle.inner_sites.proofs.StepDistances.{within_margin}

-- ---- positions in a line

abs_sum : (a b : ℤ) → nat_abs (a +ℤ b) ≤ nat_abs a + nat_abs b
abs_sum a b = rw (as_difference a, as_difference b) (simp to_naturals (omega arith))

sum_shifts : (x : ℕ) (a b : ℤ) → (pos x +ℤ a) +ℤ b ≡ pos x +ℤ (a +ℤ b)
sum_shifts x a b = rw (as_difference a, as_difference b) (simp to_naturals (omega arith))

-- what is written c off lies |c| away
pub written_near : (x y : ℕ) (c : ℤ) → pos y ≡ pos x +ℤ c → (x ≤ y + nat_abs c) × (y ≤ x + nat_abs c)
written_near x y c = rw (as_difference c) (simp to_naturals (omega arith))

module _ {n off x : ℕ} (w : 2 ≤ n) (i : Inner n off x) (c : ℤ) (d : ℕ) (near : nat_abs c ≤ d) (h : d + off ≤ margin) where
  written : pos (reflect n (pos x +ℤ c)) ≡ pos x +ℤ c
  written = read_as_written c w i (omega arith)

  -- the position that is read c off an inner one is inner, by d less
  moved_inner : Inner n (off + d) (reflect n (pos x +ℤ c))
  moved_inner =
      let close = written_near x (reflect n (pos x +ℤ c)) c written in
      inner_near (off + d) _ d (omega arith) i (omega arith) (omega arith)

  -- what is read farther off from there is read off from the first
  moved_twice : (e : ℤ) → reflect n (pos (reflect n (pos x +ℤ c)) +ℤ e) ≡ reflect n (pos x +ℤ (c +ℤ e))
  moved_twice e = ap (reflect n) (ap (λ (z : ℤ). z +ℤ e) written ∙ sum_shifts x c e)

-- ---- sites

-- the site (i,j) of m has the margin, less off, to every edge
pub record InnerSite (m : Mosaic) (off i j : ℕ) : Type 0 where
  pub tall : 2 ≤ m.height
  pub wide : 2 ≤ m.width
  pub row : Inner m.height off i
  pub column : Inner m.width off j

-- a quantity is alike around two sites, as far off as is left of the reading distance
abbrev pub AroundAlike : {X : Type 0} → ℕ → ℕ → Around X → Around X → Type 0
AroundAlike reach off N N' =
    (r c : ℤ) → nat_abs r + off ≤ reading_distance reach → nat_abs c + off ≤ reading_distance reach → N r c ≡ N' r c

-- both sites are inner ones, samples and colours around them are alike, and the settings, of this reach, are the same
pub record Alike (reach : ℕ) (m m' : Mosaic) (off i j i' j' : ℕ) : Type 0 where
  pub settings_same : m.settings ≡ m'.settings
  pub reach_is : m.settings.reach ≡ reach
  pub reach_few : reach ≤ 4
  pub inside : InnerSite m off i j
  pub inside' : InnerSite m' off i' j'
  pub samples : AroundAlike reach off (samples_around m i j) (samples_around m' i' j')
  pub colours : AroundAlike reach off (around_in m m.colour_at i j) (around_in m' m'.colour_at i' j')

-- a quantity of the sites is alike at any two sites that are alike so far
abbrev pub AlikeAt : {X : Type 0} → ℕ → ℕ → (Mosaic → ℕ → ℕ → X) → Type 0
AlikeAt reach off q = (m m' : Mosaic) (i j i' j' : ℕ) → Alike reach m m' off i j i' j' → q m i j ≡ q m' i' j'

module _ {reach off : ℕ} (few : reach ≤ 4) (r c : ℤ) (d : ℕ) (hr : nat_abs r ≤ d) (hc : nat_abs c ≤ d) (h : d + off ≤ reading_distance reach) where
  module _ {m : Mosaic} {i j : ℕ} (s : InnerSite m off i j) where
    moved_site : InnerSite m (off + d) (reflect m.height (pos i +ℤ r)) (reflect m.width (pos j +ℤ c))
    moved_site = record {
      tall = s.tall;
      wide = s.wide;
      row = moved_inner s.tall s.row r d hr (omega (arith, within_margin reach few));
      column = moved_inner s.wide s.column c d hc (omega (arith, within_margin reach few));
    }

    moved_around : {X : Type 0} (q : ℕ → ℕ → X) (r' c' : ℤ)
        → around_in m q (reflect m.height (pos i +ℤ r)) (reflect m.width (pos j +ℤ c)) r' c' ≡ around_in m q i j (r +ℤ r') (c +ℤ c')
    unfolding around
    moved_around q r' c' =
        ap₂ q (moved_twice s.tall s.row r d hr (omega (arith, within_margin reach few)) r')
        (moved_twice s.wide s.column c d hc (omega (arith, within_margin reach few)) c')

  module _ {m m' : Mosaic} {i j i' j' : ℕ} (a : Alike reach m m' off i j i' j') where
    moved_alike : {X : Type 0} (q q' : ℕ → ℕ → X) → AroundAlike reach off (around_in m q i j) (around_in m' q' i' j')
        → AroundAlike reach (off + d) (around_in m q (reflect m.height (pos i +ℤ r)) (reflect m.width (pos j +ℤ c)))
        (around_in m' q' (reflect m'.height (pos i' +ℤ r)) (reflect m'.width (pos j' +ℤ c)))
    moved_alike q q' same r' c' hr' hc' =
        moved_around a.inside q r' c'
        ∙ same (r +ℤ r') (c +ℤ c') (omega (arith, abs_sum r r')) (omega (arith, abs_sum c c')) ∙ sym (moved_around a.inside' q' r' c')

    -- what is read around two alike sites stands at sites that are alike, as far as is left
    moved : Alike reach m m' (off + d) (reflect m.height (pos i +ℤ r)) (reflect m.width (pos j +ℤ c))
        (reflect m'.height (pos i' +ℤ r)) (reflect m'.width (pos j' +ℤ c))
    moved = record {
      settings_same = a.settings_same;
      reach_is = a.reach_is;
      reach_few = few;
      inside = moved_site a.inside;
      inside' = moved_site a.inside';
      samples = moved_alike _ _ a.samples;
      colours = moved_alike _ _ a.colours;
    }

-- ---- steps

-- a step that reads d off a quantity which is alike off + d away answers alike off away
pub read_alike : {X Y : Type 0} {reach off d : ℕ} {q : Mosaic → ℕ → ℕ → X} {step : Around X → Y} → Reads d step → AlikeAt reach (off + d) q
    → d + off ≤ reading_distance reach → AlikeAt reach off (λ m i j. step (around_in m (q m) i j))
unfolding around
read_alike {d = d} reads same h m m' i j i' j' a =
    reads _ _ (λ r c hr hc. same m m' _ _ _ _ (moved a.reach_few r c d hr hc h a))

-- what is alike far off is alike nearer
pub alike_nearer : {X : Type 0} {reach : ℕ} {q : Mosaic → ℕ → ℕ → X} (near far : ℕ) → near ≤ far → AlikeAt reach far q → AlikeAt reach near q
alike_nearer near far h same m m' i j i' j' a = same m m' i j i' j' (record {
  settings_same = a.settings_same;
  reach_is = a.reach_is;
  reach_few = a.reach_few;
  inside = nearer a.inside;
  inside' = nearer a.inside';
  samples = λ r c hr hc. a.samples r c (omega arith) (omega arith);
  colours = λ r c hr hc. a.colours r c (omega arith) (omega arith);
})
  where
    nearer : {m : Mosaic} {i j : ℕ} → InnerSite m near i j → InnerSite m far i j
    nearer s = record {
      tall = s.tall;
      wide = s.wide;
      row = inner_near far _ 0 (omega arith) s.row (omega arith) (omega arith);
      column = inner_near far _ 0 (omega arith) s.column (omega arith) (omega arith);
    }

-- the site's own sample and colour
module _ {m : Mosaic} {reach off i j : ℕ} (few : reach ≤ 4) (s : InnerSite m off i j) (h : off ≤ reading_distance reach) where
  own : {X : Type 0} (q : ℕ → ℕ → X) → around_in m q i j (pos 0) (pos 0) ≡ q i j
  unfolding around
  own q =
      ap₂ q (reflect_here m.height i s.tall (omega (arith, s.row.behind, within_margin reach few)))
      (reflect_here m.width j s.wide (omega (arith, s.column.behind, within_margin reach few)))

pub sample_alike : {reach : ℕ} (off : ℕ) → off ≤ reading_distance reach → AlikeAt reach off (λ m i j. m.sample_at i j)
sample_alike off h m m' i j i' j' a =
    sym (own a.reach_few a.inside h m.sample_at) ∙ a.samples (pos 0) (pos 0) (omega arith) (omega arith) ∙ own a.reach_few a.inside' h m'.sample_at

pub colour_alike : {reach : ℕ} (off : ℕ) → off ≤ reading_distance reach → AlikeAt reach off (λ m i j. m.colour_at i j)
colour_alike off h m m' i j i' j' a =
    sym (own a.reach_few a.inside h m.colour_at) ∙ a.colours (pos 0) (pos 0) (omega arith) (omega arith) ∙ own a.reach_few a.inside' h m'.colour_at
