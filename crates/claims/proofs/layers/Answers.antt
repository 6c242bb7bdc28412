use Rattle.mos_layers.proofs.Theorems.{layer_sizes_sum, layers_fill_the_reduced_size}
use Rattle.layout_layers.proofs.Theorems.{entries_are_counted, numbers_are_below, key_zero_is_natural, each_number_is_met, numbers_repeat}
use Rattle.claims.proofs.layers.Goals as goal

pub returns : goal.returns
returns c =
    (layer_sizes_sum, layers_fill_the_reduced_size, entries_are_counted, numbers_are_below, key_zero_is_natural, each_number_is_met, numbers_repeat)
