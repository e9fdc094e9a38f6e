-- `header::lists` meets its contract: each list is the value of its line. Assumes nothing.
use Rattle.header.specs.Header.{lists_of}
use Rattle.header.proofs.lists.Goals as goal

pub returns : goal.returns
unfolding lists_of
returns c =
    rw (
      c.value.ensures,
      c.value-2.ensures,
      c.value-3.ensures,
      c.value-4.ensures,
      c.value-5.ensures,
      c.value-6.ensures,
      c.value-7.ensures,
      c.value-8.ensures,
      c.value-9.ensures,
      c.value-10.ensures,
    )
