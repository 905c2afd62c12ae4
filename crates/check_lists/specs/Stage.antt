-- Document 01, stage 9, whole.
use Rattle.std.specs.Prelude.{ℕ, List, [], ◌∷◌, Bool}
use Rattle.wire.specs.Tests.{is, passes}
use Rattle.check_directory.specs.TileRules.{tile_directory_right}
use Rattle.check_lists.specs.Metadata.{metadata_directory_right}
use Rattle.check_lists.specs.FileSpace.{file_space_right}

unfoldable pub directories_right : List ℕ → Bool
directories_right s = passes (is (tile_directory_right s) ∷ is (metadata_directory_right s) ∷ is (file_space_right s) ∷ [])
