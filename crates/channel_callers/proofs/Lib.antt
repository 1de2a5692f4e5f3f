mod FewReceived
mod PiecesDone
