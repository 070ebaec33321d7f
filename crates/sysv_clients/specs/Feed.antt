-- A feed (this project's word): a borrowed input that remembers how its last read ended.
use Rattle.std.specs.Prelude.{ℕ, Option, None, Some, Result, Ok, Err}
use Rattle.std.specs.Borrow.{GName}
use Rattle.std.specs.IoError.{error_kind}
use Rattle.std.specs.declared.io.Error.{Error}
use Rattle.std.specs.declared.io.ErrorKind.{ErrorKind}
use Rattle.sysv_clients.specs.declared.feed.Feed.{Feed}

module _ {I : Type 0} where
  -- The input.
  abbrev pub feed_stream : Feed I → I
  feed_stream feed = feed.stream.now

  -- The identity of the input: two feeds with the same name borrow the same input.
  abbrev pub feed_name : Feed I → GName
  feed_name feed = feed.stream.ghost_name

  -- The kind of the error of the last read, none if it did not fail.
  abbrev pub failure_of : Feed I → Option ErrorKind
  failure_of feed = feed.failure

-- The kind of the error that a read returned, none if it did not fail.
abbrev pub failure_in : Result ℕ Error → Option ErrorKind
failure_in (Ok count) = None
failure_in (Err why) = Some (error_kind why)
