-- The samples computed. Assumes nothing.
use mathlib.Core.Path.{refl}
use Rattle.wire.specs.Bytes.{byte_at, part}
use Rattle.wire.specs.Big.{big_at, big_from}
use Rattle.wire.specs.Tests.{passes}
use Rattle.correction_logs.specs.Log.{is_store, entry_tile, entry_cells, end_of_entry, entry_whole, entry_right, entries_go, entries_from, entries_end, log_right}
use Rattle.correction_logs.specs.Samples.{LogSamples}

pub log_samples : LogSamples
unfolding byte_at part big_at big_from passes is_store entry_tile entry_cells end_of_entry entry_whole entry_right entries_go entries_from entries_end log_right
log_samples =
    record {
      right = refl;
      entries = refl;
      stores = refl;
      cells = refl;
      removes = refl;
      tile = refl;
      past = refl;
      longer = refl;
      none = refl;
      cut = refl;
      more = refl;
      counted = refl;
      version = refl;
      neither = refl;
    }
