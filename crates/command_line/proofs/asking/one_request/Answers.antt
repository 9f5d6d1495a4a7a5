use Rattle.command_line.proofs.RequestLaws.{one_request as one_request_law}
use Rattle.command_line.proofs.asking.one_request.Goals as goal

pub returns : goal.returns
returns c = one_request_law
