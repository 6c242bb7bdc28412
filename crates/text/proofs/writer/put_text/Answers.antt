-- The text is copied over the part from `at` on that is as long as it.
use Rattle.text.proofs.Copying.{part_copied}
use Rattle.text.proofs.writer.put_text.Goals as goal

pub returns : goal.returns
returns c =
    part_copied _ _ _ _ c.requires c.copy_from_slice.ensures.after
