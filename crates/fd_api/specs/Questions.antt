-- The queries that the resources ask.
use Rattle.fd_kinds.specs.declared.query.Query.{Query}
use Rattle.fd_kinds.specs.declared.query.Query.TheVariants as query
use Rattle.fd_kinds.specs.declared.query.Window.{Window}
use Rattle.fd_api.specs.declared.question.Question.{Question}
use Rattle.fd_api.specs.declared.question.Question.TheVariants as question
use Rattle.fd_api.specs.declared.route.Listing.TheVariants as listing
use Rattle.fd_api.specs.declared.route.Summing.TheVariants as summing

abbrev pub query_of : Question → Window → Query
query_of question.Types window = query.Types window
query_of (question.List listing.LabelNames filter) window = query.LabelNames filter window
query_of (question.List (listing.Values name) filter) window = query.Values name filter window
query_of (question.List listing.Series filter) window = query.Series filter window
query_of (question.Sum summing.Range selector) window = query.Range selector window
query_of (question.Sum summing.Merge selector) window = query.Merge selector window
