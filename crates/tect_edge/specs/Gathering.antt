-- What contracts see behind a sink that gathers its pieces.
use Rattle.std.specs.Io.Buffered.{writer_inner}
use Rattle.tect_edge.specs.declared.standard.StdSink.{StdSink}

-- the writer that the pieces go to, which has none of those that are held
abbrev pub sink_writer : {W : Type 0} → StdSink W → W
sink_writer s = writer_inner s.gathered
