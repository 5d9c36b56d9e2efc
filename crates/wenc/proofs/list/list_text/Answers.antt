use Rattle.wenc.proofs.list.list_text.Goals as goal

pub returns : goal.returns
returns g c =
    let read = c.in_ok-listing.ensures in (
      c.in_ok-listing.listing,
      record {
        bytes = c.in_ok-bytes.bytes.items;
        says = c.in_ok-bytes.ensures;
        reading = rw c.as_slice.ensures.value at read.reading;
        within = read.within;
        placed = rw c.as_slice.ensures.value at read.placed;
        counted = read.counted;
      },
      c.in_ok-printed.ensures,
    )
