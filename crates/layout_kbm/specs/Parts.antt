-- What the parts behind the calls promise.
use Rattle.std.specs.Prelude.{ℕ, List}
use Rattle.layout.specs.Layouts.{Layout}
use Rattle.kbm_text.specs.Written.{entry_line}
use Rattle.layout_kbm.specs.Mappings.{natural}

-- A key's entry in the mapping of a layout.
unfoldable pub entry_in : Layout → ℕ → List ℕ
unfolding natural
entry_in l key = entry_line key (natural l key)
