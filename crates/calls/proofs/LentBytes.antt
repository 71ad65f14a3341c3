-- The type of a lent file, `&[u8]`: what it owns when a call begins says that every entry is below 256, whatever the call
-- and in every model of the language. So `read` and `bayer_read` are lent bytes, and no caller has to show it. Assumes
-- nothing.
use Rattle.std.specs.Prelude.{List, [], ◌∷◌, ℕ, zero, suc, ◌+◌}
use Rattle.std.proofs.Common.{arith}
use base.Fml.{Lft}
use base.Logic.{ent, via, fst∗, snd∗, ex, ex_e}
use seplogic.Ra.Ura.{Ura}
use mir.Syntax.{Lifetime, named, w8}
use mir.Val.{Val}
use types.Logic.{Logic, sem}
use contract.Lifetimes.{Lfts, Shares}
use contract.Monad.{fact, fact_mono, fact_use, conj, conj_l, conj_r}
use borrow.Fn.World.{World, ArgsD, Bounds, Entered, In}
use denote.Plain.{UInt}
use denote.RattleType.{Valss, owns}
use denote.Signature.{Signature, Slot, types_at, plain}
use denote.Builtin.{SliceRefOf, SliceRefMutOf, u8, u16}
use denote.Triple.Entry.{alive, on_entry}
use denote.Ref.{Bor}
use denote.Shadow.{shadow, shows_shadow}
use denote.Slice.{ShrSlice, shr_slice_at, elements_shared}
use Rattle.frame_file.specs.Lists.{Below}

-- what the type shares of the elements says so of each
shared_below : (l : List ℕ) (b o : ℕ) (κ : Lft) → shadow (elements_shared (UInt w8) l b o κ) → Below 256 l
shared_below [] b o κ s k = omega arith
shared_below (n ∷ l) b o κ s zero = s.0.1.0.1
shared_below (n ∷ l) b o κ s (suc k) = shared_below l b (o + 1) κ s.1 k

pub slice_below : {M : Type 1} {𝓤 : Ura M} (𝓛 : Logic 𝓤) (ℓ : Lifetime) (κ : Lft) (file : Bor (List ℕ)) (vs : List Val)
    → ent 𝓤 (sem 𝓛 ((ShrSlice ℓ κ (UInt w8)).own_val file vs)) (fact 𝓤 (Below 256 file.now))
slice_below {𝓤 = 𝓤} 𝓛 ℓ κ file vs =
    let elements = elements_shared (UInt w8) file.now file.ref_ptr.0 file.ref_ptr.1 κ in
    via 𝓤 (sem 𝓛 elements) (snd∗ 𝓤 (sem 𝓛 (shr_slice_at (UInt w8) file vs)) (sem 𝓛 elements))
    (via 𝓤 (fact 𝓤 (shadow elements)) (shows_shadow 𝓛 elements)
    (fact_mono 𝓤 (shadow elements) (Below 256 file.now) (shared_below file.now file.ref_ptr.0 file.ref_ptr.1 κ)))

-- the signature of `read` and of `bayer_read`, `(file: &[u8], samples: &mut [u16]) -> result`
abbrev samples_slot : Slot 2
samples_slot = SliceRefMutOf (1 ∷ []) tt (plain (λ κs. u16)) (λ κs. tt)

abbrev pub reading_file : Slot 2 → Signature
reading_file result = record {
  lifetimes = 2;
  outlives = [];
  params = SliceRefOf (0 ∷ []) tt (plain (λ κs. u8)) (λ κs. tt) ∷ samples_slot ∷ [];
  result = result;
}

-- so what the types of its arguments own when it is called says that the file's entries are bytes
module _ (w : World) (result : Slot 2) where
  abbrev S : Signature
  S = reading_file result

  pub lent_bytes : (κs : Lfts 2) (a : ArgsD (reading_file result) κs) → ent w.𝓤 (In (reading_file result) κs a w) (fact w.𝓤 (Below 256 a.0.now))
  lent_bytes κs a =
      via w.𝓤 (Entered S κs a w) (conj_r w.𝓤 (fact w.𝓤 (Bounds S κs)) (Entered S κs a w))
      (ex_e w.𝓤 (λ (qs : Shares 2). ex w.𝓤 (λ (vss : Valss (types_at S.params κs)). on_entry w.𝓛 S κs qs a vss)) (λ qs.
      ex_e w.𝓤 (λ (vss : Valss (types_at S.params κs)). on_entry w.𝓛 S κs qs a vss) (λ vss.
      let owned = sem w.𝓛 (owns (types_at S.params κs) a vss) in
      let file = sem w.𝓛 ((ShrSlice (named 0) κs.0 (UInt w8)).own_val a.0 vss.0) in
      let samples = sem w.𝓛 (owns (types_at (samples_slot ∷ []) κs) a.1 vss.1) in
      via w.𝓤 owned (snd∗ w.𝓤 (alive w.𝓛 S κs qs) owned)
      (via w.𝓤 file (fst∗ w.𝓤 file samples) (slice_below w.𝓛 (named 0) κs.0 a.0 vss.0)))))

  -- a call of it: what follows of the bytes and of what its contract tells at the end
  pub called : (κs : Lfts 2) (a : ArgsD (reading_file result) κs) {Told Called : Type 0} → (Below 256 a.0.now → Told → Called)
      → ent w.𝓤 (conj w.𝓤 (In (reading_file result) κs a w) (fact w.𝓤 Told)) (fact w.𝓤 Called)
  called κs a {Told} {Called} both =
      let begins = In (reading_file result) κs a w in
      fact_use w.𝓤 (Below 256 a.0.now) (via w.𝓤 begins (conj_l w.𝓤 begins (fact w.𝓤 Told)) (lent_bytes κs a))
      (λ bytes. via w.𝓤 (fact w.𝓤 Told) (conj_r w.𝓤 begins (fact w.𝓤 Told)) (fact_mono w.𝓤 Told Called (both bytes)))
