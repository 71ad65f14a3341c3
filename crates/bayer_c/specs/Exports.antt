-- What the exports return: the document's number, place and values of the answer that bayer's function gives.
-- Definitions alone. Assumes nothing.
use Rattle.std.specs.Prelude.{◌≡◌, get_or}
use Rattle.answers.specs.Calls.{returned, returned_by_read, values_of_read, Answer, ReadAnswer}
use Rattle.bayer_c.specs.declared.Returned.{Returned}
use Rattle.bayer_c.specs.declared.ReadReturned.{ReadReturned}

pub record Exported (answer : Answer) (r : Returned) : Type 0 where
  pub number_is : r.number ≡ (returned answer).number
  pub place_is : r.place ≡ (returned answer).place

-- a value that a refusal does not give is 0
pub record ReadExported (answer : ReadAnswer) (r : ReadReturned) : Type 0 where
  pub number_is : r.number ≡ (returned_by_read answer).number
  pub place_is : r.place ≡ (returned_by_read answer).place
  pub width_is : r.width ≡ get_or (values_of_read answer) 0 0
  pub height_is : r.height ≡ get_or (values_of_read answer) 1 0
  pub phase_is : r.phase ≡ get_or (values_of_read answer) 2 0

-- a call returns so much of an answer; with that answer, what it leaves is as `Leaves` says
pub record Returns {Left : Type 0} (Leaves : Answer → Left → Type 0) (r : Returned) (left : Left) : Type 0 where
  pub answer : Answer
  pub exported : Exported answer r
  pub leaves : Leaves answer left

-- the same of read
pub record ReturnsByRead {Left : Type 0} (Leaves : ReadAnswer → Left → Type 0) (r : ReadReturned) (left : Left) : Type 0 where
  pub answer : ReadAnswer
  pub exported : ReadExported answer r
  pub leaves : Leaves answer left
