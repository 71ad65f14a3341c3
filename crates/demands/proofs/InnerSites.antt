-- Document 02, A3, over calls of develop: at a site 20 or more rows and columns from every edge, what stands farther off than is read, 14 rows or
-- columns, changes no number and no entry; so neither do the edges. A call may find anything in the buffers that it is lent. Assumes nothing.
use Rattle.std.specs.Prelude.{◌≡◌, ℕ}
use Rattle.std.proofs.Common.{sym, ◌∙◌}
use Rattle.frame.specs.Sites.{Frame, Colour}
use Rattle.answers.specs.Given.{Given, given_at}
use Rattle.inner_sites.specs.FarSites.{FarFromEdges, SameWindow}
use Rattle.inner_sites.proofs.InnerSites as inner
use Rattle.demands.specs.CallsMade.{Developed, number_left, entry_left}
use Rattle.demands.proofs.Demand3.{left_is, entry_is}

-- two calls, at the same black level, whose frames are the same about (i,j) and (i',j')
pub nothing_farther_counts : (given : Given) (f' : Frame) (first : Developed given) (last : Developed (given_at f' given.black))
    (i j i' j' : ℕ) → FarFromEdges given.frame i j → FarFromEdges f' i' j' → SameWindow given.frame f' i j i' j'
    → ((c : Colour) → number_left first c i j ≡ number_left last c i' j') × (entry_left first i j ≡ entry_left last i' j')
nothing_farther_counts given f' first last i j i' j' far far' same = (
  λ c. left_is first c i j ∙ inner.nothing_farther_counts given.frame f' i j i' j' far far' same given.black c
      ∙ sym (left_is last c i' j'),
  entry_is first i j ∙ inner.nothing_farther_decides given.frame f' i j i' j' far far' same ∙ sym (entry_is last i' j'),
)
